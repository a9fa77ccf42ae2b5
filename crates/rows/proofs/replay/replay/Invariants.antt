use Rattle.std.proofs.Common.{take, Ok}
use Rattle.kinds.specs.Bounded.{Applied}
use Rattle.kinds.specs.Sequences.{sequences}
use Rattle.rows.proofs.replay.replay.Given as goal

abbrev pub invariant-loop-step : goal.invariant-loop-step
invariant-loop-step g l = Applied (sequences g.K.Kind.theory) (take l.step l.row) l.initial.run (Ok tt) l.run
