use Rattle.std.proofs.Common.{◌≡◌, List, length, take}
use Rattle.memory.specs.Write.{TellsEach}
use Rattle.memory.proofs.write.write.Given as goal

-- The places below i hold what is asked for.
abbrev pub invariant-loop-i : goal.invariant-loop-i
invariant-loop-i g l =
    (xs : List _) → length xs ≡ length l.row → TellsEach (goal.F-post g l.entry) xs → take l.i l.row ≡ take l.i xs
