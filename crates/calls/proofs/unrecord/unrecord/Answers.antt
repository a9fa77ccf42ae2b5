use Rattle.std.proofs.Common.{length, ap, ◌∙◌}
use Rattle.forms.specs.Form.{grouped}
use Rattle.shop.specs.Reached.{Unrecord}
use Rattle.calls.specs.Handed.{with_work}
use Rattle.calls.proofs.Called.{refused, refused_so, exit_is}
use Rattle.calls.proofs.FromWork.{not_taken, in_row}
use Rattle.calls.proofs.Dropped.{dropped}
use Rattle.calls.proofs.unrecord.unrecord.Goals as goal

pub returns-in_err-place-clause-leaves : goal.returns-in_err-place-clause-leaves
returns-in_err-place-clause-leaves g c =
    (refused g.K.Kind.theory (with_work c.args.shop.now c.args.work.now) c.args.shop.now (Unrecord c.args.number c.args.name) _ _
    (exit_is _ c.from_residual.ensures.1) (refused_so _ (not_taken _ _ _ c.in_err-place.ensures))).leaves

pub returns : goal.returns
returns g c =
    let a = dropped g.K.Kind.theory c.args.shop.now c.args.work.now c.take_out.new.work c.args.number c.args.name c.in_ok-place.place
    (in_row g.K.Kind.theory c.args.shop.now c.args.work.now c.take_out.new.work c.args.number c.args.name g.met.K.Kind.lawful c.in_ok-place.place c.in_ok-place.ensures)
    c.replace.new.shop c.replace.ensures.rows c.replace.ensures.rooms c.replace.ensures.counter
    c.patch_count.result (c.patch_count.ensures ∙ ap (λ z. length (grouped z)) c.row.ensures) in
    record { answer = a.answer; leaves = a.leaves }
