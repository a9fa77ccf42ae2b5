use Rattle.std.proofs.Common.{◌≡◌, ◌++◌, map, take, drop}
use Rattle.histories.proofs.flat.invert_into.Given as goal

abbrev pub invariant-loop-patch : goal.invariant-loop-patch
invariant-loop-patch g l = l.row ≡ map g.K.Kind.theory.invert (take l.patch-index l.initial.row) ++ drop l.patch-index l.initial.row
