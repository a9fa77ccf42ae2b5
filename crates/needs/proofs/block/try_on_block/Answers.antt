use Rattle.std.proofs.Common.{◌-◌, refl, ap, ◌∙◌, rules}
use Rattle.rows.proofs.Copying.{copied_back}
use Rattle.needs.proofs.Trying.{came_through, joins, too_far}
use Rattle.needs.proofs.block.try_on_block.Goals as goal

pub returns-in-Ok-clause-found : goal.returns-in-Ok-clause-found
returns-in-Ok-clause-found g c =
    came_through g.K.Kind.theory c.args.row.now c.args.work.now c.args.first c.args.count _ c.pass_to_end.new.row c.in-Ok.ensures _
    c.saturating_sub.result refl (c.saturating_sub.ensures ∙ ap (λ k. k - c.args.first) c.saturating_sub-before.ensures)

pub returns-in-Err-By-clause-found : goal.returns-in-Err-By-clause-found
returns-in-Err-By-clause-found g c =
    joins g.K.Kind.theory c.args.row.now c.args.work.now c.args.first c.args.count _ c.pass_to_end.new.row c.in-Err-By.ensures
    c.in-Err-By._name c.saturating_sub-before.result (search rules) c.saturating_sub-before.ensures c.copy_row-in-Err-By.new.to
    (λ n. copied_back c.args.row.now c.args.work.now c.pass_to_end.new.row c.copy_row.new.to c.copy_row-in-Err-By.new.to n
    c.pass_to_end.auto.row c.copy_row.ensures c.copy_row-in-Err-By.ensures)

pub returns-in-Err-TooFar-clause-found : goal.returns-in-Err-TooFar-clause-found
returns-in-Err-TooFar-clause-found g c = too_far g.K.Kind.theory c.args.row.now c.args.work.now c.args.first c.args.count _ c.pass_to_end.new.row c.in-Err-TooFar.ensures (search rules)
