-- What a shop holds: the histories of its four repositories, and a counter of the names that were given out.
use Rattle.std.specs.Prelude.{ℕ, ◌+◌, List, [], ◌∷◌, slice_index_or, slice_set}
use Rattle.histories.specs.declared.named.Named.{Named}

-- Patches of changes P, each under its name.
abbrev pub History : Type 0 → Type 0
History P = List (Named (List P))

pub record State (P : Type 0) : Type 0 where
  pub histories : List (History P)
  pub counter : ℕ

-- Opened empty.
abbrev pub empty : {P : Type 0} → State P
empty = record { histories = [] ∷ [] ∷ [] ∷ [] ∷ []; counter = 0 }

module _ {P : Type 0} where
  -- The history of repository r.
  abbrev pub at : State P → ℕ → History P
  at s r = slice_index_or s.histories r []

  -- Repository r holds the history h; all else stays.
  abbrev pub with_history : State P → ℕ → History P → State P
  with_history s r h = record { histories = slice_set s.histories r h; counter = s.counter }

  -- One more name is given out.
  abbrev pub with_name : State P → State P
  with_name s = record { histories = s.histories; counter = s.counter + 1 }
