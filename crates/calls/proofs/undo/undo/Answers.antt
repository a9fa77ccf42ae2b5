use Rattle.std.proofs.Common.{refl}
use Rattle.shop.specs.Reached.{Undo}
use Rattle.calls.specs.Handed.{with_work}
use Rattle.calls.proofs.Called.{refused, refused_so, exit_is}
use Rattle.calls.proofs.FromWork.{not_taken, in_row}
use Rattle.calls.proofs.Undone.{no_room, appended_back}
use Rattle.calls.proofs.undo.undo.Goals as goal

pub returns-in_err-place-clause-leaves : goal.returns-in_err-place-clause-leaves
returns-in_err-place-clause-leaves g c =
    (refused g.K.Kind.theory (with_work c.args.shop.now c.args.work.now) c.args.shop.now (Undo c.args.number c.args.name) _ _
    (exit_is _ c.from_residual.ensures.1) (refused_so _ (not_taken _ _ _ c.in_err-place.ensures))).leaves

pub returns-in_err-room_for : goal.returns-in_err-room_for
returns-in_err-room_for g c =
    let a = no_room g.K.Kind.theory c.args.shop.now c.args.work.now c.take_out.new.work c.args.number c.args.name c.in_ok-place.place
    (in_row g.K.Kind.theory c.args.shop.now c.args.work.now c.take_out.new.work c.args.number c.args.name g.met.K.Kind.lawful c.in_ok-place.place c.in_ok-place.ensures)
    c.in_ok-fresh.fresh c.in_ok-fresh.ensures c.growth_of_inverse-growth.result (rw c.part.ensures at c.growth_of_inverse-growth.ensures)
    c.from_residual-in_err-room_for.result _ (exit_is _ c.from_residual-in_err-room_for.ensures.1)
    (rw c.row.ensures at c.in_err-room_for.ensures) in
    record { answer = a.answer; leaves = a.leaves }

pub returns : goal.returns
returns g c =
    let a = appended_back g.K.Kind.theory c.args.shop.now c.args.work.now c.take_out.new.work c.args.number c.args.name c.in_ok-place.place
    (in_row g.K.Kind.theory c.args.shop.now c.args.work.now c.take_out.new.work c.args.number c.args.name g.met.K.Kind.lawful c.in_ok-place.place c.in_ok-place.ensures)
    c.in_ok-fresh.fresh c.in_ok-fresh.ensures c.growth_of_inverse-growth.result (rw c.part.ensures at c.growth_of_inverse-growth.ensures)
    (rw c.row.ensures at c.in_ok-room_for.ensures)
    (record { repositories = c.append_inverse.new.shop.repositories; counter = c.in_ok-fresh.fresh; four = _ })
    c.append_inverse.ensures.rows c.append_inverse.ensures.rooms refl in
    record { answer = a.answer; leaves = a.leaves }
