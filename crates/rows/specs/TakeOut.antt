-- Some patches of a row, taken out.
use Rattle.std.specs.Prelude.{◌≡◌, ℕ, List, ◌++◌, length, take, drop, Ok, Err, Result}
use Rattle.kinds.specs.declared.answers.Clash.{Clash}
use Rattle.kinds.specs.declared.steps.AtStep.{AtStep}
use Rattle.kinds.specs.Theory.{Theory}
use Rattle.rows.specs.Pass.{passing}

-- The row with those taken out behind the others, and the number of the others; or what stops them.
abbrev pub taken : {P : Type 0} → List P → Result (List P × List P) (AtStep Clash) → Result ℕ (AtStep Clash) → List P → Type 0
taken before (Ok s) r left = (r ≡ Ok (length (before ++ s.0))) × (left ≡ (before ++ s.0) ++ s.1)
taken before (Err e) r left = r ≡ Err e

-- The `count` patches from `start` on pass over all behind them.
abbrev pub TakenOut : {P F : Type 0} → Theory P F → List P → ℕ → ℕ → Result ℕ (AtStep Clash) → List P → Type 0
TakenOut T row start count = taken (take start row) (passing T (take count (drop start row)) (drop count (drop start row)))
