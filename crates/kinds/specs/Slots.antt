-- Documents that are a list of slots, whose words are those of the slots, one after the other, all of one width.
use Rattle.std.specs.Prelude.{◌≡◌, ℕ, ◌+◌, ◌*◌, Bool, false, List, take, drop, Some, None, Option}

-- a slot is there and a test holds of it
abbrev pub passing : {X : Type 0} → (X → Bool) → Option X → Bool
passing t None = false
passing t (Some x) = t x

-- the words of slot n, where each slot has w
abbrev pub words_of : ℕ → ℕ → List ℕ → List ℕ
words_of w n run = take w (drop (n * w) run)

-- All words but the w from `at` on are as they were.
abbrev pub Around : ℕ → ℕ → List ℕ → List ℕ → Type 0
Around at w was left = (take at left ≡ take at was) × (drop (at + w) left ≡ drop (at + w) was)
