use Rattle.std.proofs.Common.{rules, sym, ◌∙◌}
use Rattle.std.proofs.lemmas.List.{length-take-le}
use Rattle.shop.specs.Calls.{needed_by}
use Rattle.calls.proofs.Called.{exit_is, mapped}
use Rattle.calls.proofs.InWork.{copy_within, start_in_work, stopped_in_work}
use Rattle.calls.proofs.take_out.take_out.Goals as goal

pub slice_bounds-pass_to_end-end : goal.slice_bounds-pass_to_end-end
slice_bounds-pass_to_end-end g c =
    copy_within g.K.Kind.theory c.args.shop.now c.args.work.now c.args.number c.args.name c.in_ok-in_shop.ensures c.in_ok-room_to_work.ensures
    (rw c.in_ok-history.ensures.row at c.in_ok-history.ensures.history) c.copy-n.new.work c.copy-n.result c.copy-n.ensures.count c.copy-n.ensures.work c.copy-n.auto.work

pub slice_bounds-pass_to_end-end-2 : goal.slice_bounds-pass_to_end-end-2
slice_bounds-pass_to_end-end-2 g c =
    sym (length-take-le c.copy-n.result c.copy-n.new.work (copy_within g.K.Kind.theory c.args.shop.now c.args.work.now c.args.number c.args.name c.in_ok-in_shop.ensures c.in_ok-room_to_work.ensures
    (rw c.in_ok-history.ensures.row at c.in_ok-history.ensures.history) c.copy-n.new.work c.copy-n.result c.copy-n.ensures.count c.copy-n.ensures.work c.copy-n.auto.work))

pub returns-in_err-start : goal.returns-in_err-start
returns-in_err-start g c =
    stopped_in_work g.K.Kind.theory c.args.shop.now c.args.work.now c.args.number c.args.name c.in_ok-in_shop.ensures c.in_ok-room_to_work.ensures
    (rw c.in_ok-history.ensures.row at c.in_ok-history.ensures.history) c.copy-n.new.work c.copy-n.result c.copy-n.ensures.count c.copy-n.ensures.work
    c.in_ok-place.place (sym c.in_ok-place.ensures.ok_part ∙ (rw c.in_ok-history.ensures.row at c.find.ensures.found)) c.pass_to_end-passed.result c.pass_to_end-passed.new.row _ c.pass_to_end-passed.ensures
    c.map_err.result (mapped (needed_by g.K.Kind.theory c.args.number) c.pass_to_end-passed.result c.map_err.result _ (λ e x p. search rules) c.map_err.ensures.cases)
    _ c.in_err-start.was _ (exit_is _ c.from_residual-in_err-start.ensures.1)

pub returns : goal.returns
returns g c =
    start_in_work g.K.Kind.theory c.args.shop.now c.args.work.now c.args.number c.args.name c.in_ok-in_shop.ensures c.in_ok-room_to_work.ensures
    (rw c.in_ok-history.ensures.row at c.in_ok-history.ensures.history) c.copy-n.new.work c.copy-n.result c.copy-n.ensures.count c.copy-n.ensures.work
    c.in_ok-place.place (sym c.in_ok-place.ensures.ok_part ∙ (rw c.in_ok-history.ensures.row at c.find.ensures.found)) c.pass_to_end-passed.result c.pass_to_end-passed.new.row _ c.pass_to_end-passed.ensures
    c.map_err.result (mapped (needed_by g.K.Kind.theory c.args.number) c.pass_to_end-passed.result c.map_err.result _ (λ e x p. search rules) c.map_err.ensures.cases)
    _ c.in_ok-start.was
