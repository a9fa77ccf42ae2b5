use Rattle.std.proofs.Common.{◌≤◌, ◌-◌, length}
use Rattle.histories.proofs.MergingFlat.{Going}
use Rattle.histories.proofs.flat.merge.Given as goal

abbrev pub invariant-loop-first : goal.invariant-loop-first
invariant-loop-first g l = (length l.left ≤ l.end - l.count) × (l.end ≤ length l.work) × Going g.K.Kind.theory l.others l.initial.work l.count l.left l.work l.end

abbrev pub decreases-loop-first : goal.decreases-loop-first
decreases-loop-first g l = length l.left
