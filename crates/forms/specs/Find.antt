-- Where something stands: a patch in a history and in its flat row, a change that cannot be written.
use Rattle.std.specs.Prelude.{ℕ, ◌+◌, cond, List, [], ◌∷◌, length, Some, None, Option, option_map, ◌==◌}
use Rattle.kinds.specs.Theory.{Theory}
use Rattle.histories.specs.declared.named.Named.{Named}
use Rattle.histories.specs.Flat.{flat}
use Rattle.rows.specs.declared.place.Place.{Place}

-- A patch of a history, and the patches before and behind it.
pub record Standing (P : Type 0) : Type 0 where
  pub before : List P
  pub itself : P
  pub behind : List P

module _ {P : Type 0} (name : P → ℕ) where
  -- one more patch stands before it
  abbrev pub one_before : P → Standing P → Standing P
  one_before p w = record { before = p ∷ w.before; itself = w.itself; behind = w.behind }

  -- The first patch of the name n.
  abbrev pub standing : List P → ℕ → Option (Standing P)
  standing [] n = None
  standing (p ∷ h) n = cond (name p == n) (Some (record { before = []; itself = p; behind = h })) (option_map (one_before p) (standing h n))

-- The place of its changes in the flat row.
abbrev pub place_of : {P : Type 0} → Standing (Named (List P)) → Place
place_of w = record { start = length (flat w.before); count = length w.itself.changes }

-- The place of the first change that cannot be written, where that of the first of all is i.
abbrev pub unwritable : {P F : Type 0} → Theory P F → ℕ → List P → Option ℕ
unwritable T i [] = None
unwritable T i (c ∷ cs) = cond (T.written c) (unwritable T (i + 1) cs) (Some i)
