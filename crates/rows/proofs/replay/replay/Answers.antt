use Rattle.std.proofs.Common.{rules}
use Rattle.std.proofs.lemmas.Result.{err_from_is_err_and}
use Rattle.rows.proofs.Replaying.{one_more, broken_off}
use Rattle.rows.proofs.replay.replay.Goals as goal

pub returns-in_err-at_step : goal.returns-in_err-at_step
returns-in_err-at_step g c =
    search (
      rules,
      err_from_is_err_and,
      broken_off g.K.Kind.theory c.args.row.now c.args.run.now _ _ c.apply.new.run
          (one_more g.K.Kind.theory c.args.row.now c.args.run.now g.met.K.Kind.lawful c.loop-step.step c.index-row-step.result c.loop-step.run c.apply.result _ c.apply.new.run
          c.loop-step-test.true c.index-row-step.is c.loop-step.invariant c.apply.ensures c.in_err-at_step.ensures),
    )

pub loop-step-preserved : goal.loop-step-preserved
loop-step-preserved g c =
    one_more g.K.Kind.theory c.args.row.now c.args.run.now g.met.K.Kind.lawful c.loop-step.step c.index-row-step.result c.loop-step.run c.apply.result _ c.apply.new.run
    c.loop-step-test.true c.index-row-step.is c.loop-step.invariant c.apply.ensures c.in_ok-at_step.ensures
