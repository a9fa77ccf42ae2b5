use Rattle.std.proofs.Common.{length, replicate, sym, refl, ap, ◌∙◌}
use Rattle.kinds.specs.Parts.{part}
use Rattle.shop.specs.Held.{rows_of, state_of}
use Rattle.shop.specs.Reached.{Record}
use Rattle.calls.specs.Handed.{with_run}
use Rattle.calls.specs.Run.{run_after}
use Rattle.calls.proofs.Called.{exit_is, refused, done}
use Rattle.calls.proofs.Appended.{record_done, record_refused}
use Rattle.calls.proofs.record.record.Goals as goal

pub returns-in_err-name : goal.returns-in_err-name
returns-in_err-name g c =
    let was = sym c.in_err-name.ensures.answer in
    let (e, zeros) = record_refused g.K.Kind.theory (with_run c.args.shop.now c.args.run.now) (state_of c.args.shop.now) c.args.number c.args.changes.now _ c.args.run.now c.recorded.new.run
    c.in_ok-in_shop.ensures c.in_ok-room_to_show.ensures.answer c.in_ok-a_patch.ensures (rw was at (c.recorded.ensures.document c.in_ok-room_to_show.ensures.run)) in
    let exit = exit_is _ c.from_residual-in_err-name.ensures.1 in
    record {
      answer = exit ∙ ap (part (λ x. x.2) (λ x. x)) (sym e);
      run = (rw was at c.zeros_if_refused.ensures.run) ∙ ap (λ n. replicate n 0) c.recorded.auto.run ∙ zeros ∙ ap (λ z. run_after g.K.Kind.theory c.args.run.now (part (λ x. x.0) (λ x. x) z)) (sym e);
      leaves = (refused g.K.Kind.theory (with_run c.args.shop.now c.args.run.now) c.args.shop.now (Record c.args.number c.args.changes.now) _ _ exit (ap (part (λ x. (x.1, x.2)) (λ x. x)) e)).leaves;
    }

pub returns-clause-leaves : goal.returns-clause-leaves
returns-clause-leaves g c =
    let was = sym c.in_ok-name.ensures.answer in
    let (d, e, is) = record_done g.K.Kind.theory c.args.shop.now c.args.number c.args.changes.now c.in_ok-name.name (length c.args.run.now) c.recorded.new.run (rows_of c.append.new.shop)
    c.in_ok-in_shop.ensures c.in_ok-room_to_show.ensures.answer c.in_ok-a_patch.ensures (rw was at (c.recorded.ensures.document c.in_ok-room_to_show.ensures.run)) (rw was at c.recorded.ensures.name) c.append.ensures.rows in
    (done g.K.Kind.theory (with_run c.args.shop.now c.args.run.now) c.args.shop.now (Record c.args.number c.args.changes.now) _ _ _ _ (ap (part (λ x. (x.1, x.2)) (λ x. x)) e) refl refl c.append.ensures.rooms).leaves
