use Rattle.rows.proofs.Passing.{Along}
use Rattle.rows.proofs.pass.pass_over.Given as goal

abbrev pub invariant-loop-step : goal.invariant-loop-step
invariant-loop-step g l = Along g.K.Kind.theory l.initial.row l.count l.row l.step-counter
