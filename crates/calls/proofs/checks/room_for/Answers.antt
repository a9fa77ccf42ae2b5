use Rattle.std.proofs.Common.{sym, refl, ◌∙◌}
use Rattle.shop.proofs.Chains.{then_go}
use Rattle.calls.proofs.Called.{refused_so, exit_is}
use Rattle.calls.proofs.OneMore.{few_is, short_is, light_is, by_tests}
use Rattle.calls.proofs.checks.room_for.Goals as goal

pub returns-in_err-or_refused-2 : goal.returns-in_err-or_refused-2
returns-in_err-or_refused-2 g c p l k =
    exit_is _ c.from_residual-in_err-or_refused-2.ensures.1
    ∙ sym (by_tests g.K.Kind.theory c.args.row.now p _ _ _ (few_is g.K.Kind.theory c.args.row.now p _ _ c.patch_count.ensures (rw (sym l) at c.saturating_add.ensures))
    (short_is g.K.Kind.theory c.args.row.now p _ _ c.patch_count.ensures (rw (sym l) at c.saturating_add.ensures)) refl
    ∙ then_go _ (sym c.in_ok-or_refused.ensures) (refused_so _ (sym c.in_err-or_refused-2.ensures)))

pub returns : goal.returns
returns g c p l k =
    c.or_refused-3.ensures
    ∙ sym (by_tests g.K.Kind.theory c.args.row.now p _ _ _ (few_is g.K.Kind.theory c.args.row.now p _ _ c.patch_count.ensures (rw (sym l) at c.saturating_add.ensures))
    (short_is g.K.Kind.theory c.args.row.now p _ _ c.patch_count.ensures (rw (sym l) at c.saturating_add.ensures))
    (light_is g.K.Kind.theory c.args.row.now p _ _ _ c.growth.ensures (sym k) c.saturating_add-2.ensures)
    ∙ then_go _ (sym c.in_ok-or_refused.ensures) (then_go _ (sym c.in_ok-or_refused-2.ensures) refl))
