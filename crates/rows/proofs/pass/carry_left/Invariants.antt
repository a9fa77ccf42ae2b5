use Rattle.rows.proofs.Carrying.{Comes}
use Rattle.rows.proofs.pass.carry_left.Given as goal

abbrev pub invariant-loop-i : goal.invariant-loop-i
invariant-loop-i g l = Comes g.K.Kind.theory l.initial.row l.row l.i
