use Rattle.histories.proofs.PassingBy.{Passing}
use Rattle.histories.proofs.flat.pass_rest.Given as goal

abbrev pub invariant-loop-start : goal.invariant-loop-start
invariant-loop-start g l = Passing g.K.Kind.theory l.initial.row l.count l.row l.start
