-- Options in a row: where each begins, and what is left when one is taken off.
use Rattle.std.specs.Prelude.{◌≡◌, ℕ, List, ◌++◌, take, drop, Ok, Err, sum_by, Result}
use Rattle.kinds.specs.declared.answers.Clash.{Clash}
use Rattle.kinds.specs.declared.steps.AtStep.{AtStep}
use Rattle.rows.specs.Pass.{passing}
use Rattle.product.specs.Controller.{Change, controller}
use Rattle.options.specs.declared.parts.Stuck.{Stuck}
use Rattle.options.specs.declared.parts.Stuck.TheVariants.{NoMemory, NoSuchOption, By}
use Rattle.options.specs.declared.parts.Part.{Part}

abbrev pub count_of : Part → ℕ
count_of p = p.count

-- the number of changes of the options before the k-th
abbrev pub start_of : List Part → ℕ → ℕ
start_of parts k = sum_by count_of (take k parts)

-- the number of changes of the k-th option
abbrev pub size_of : List Part → ℕ → ℕ
size_of parts k = sum_by count_of (take 1 (drop k parts))

-- the changes of the k-th option, passed over all behind them
abbrev pub passed_off : List Change → List Part → ℕ → Result (List Change × List Change) (AtStep Clash)
passed_off row parts k = passing controller (take (size_of parts k) (drop (start_of parts k) row)) (drop (size_of parts k) (drop (start_of parts k) row))

-- What taking the k-th option off answers, r, and leaves of the row: the others as the passing left them, or all as they were.
abbrev pub TakenOff : List Change → List Part → ℕ → Result (Unit {0}) Stuck → List Change → Type 0
TakenOff row parts k (Ok u) left = (s : List Change × List Change) × (passed_off row parts k ≡ Ok s) × (left ≡ take (start_of parts k) row ++ s.0)
TakenOff row parts k (Err NoMemory) left = left ≡ row
TakenOff row parts k (Err NoSuchOption) left = left ≡ row
TakenOff row parts k (Err (By e)) left = (passed_off row parts k ≡ Err e) × (left ≡ row)
