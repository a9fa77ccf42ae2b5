-- Which history a flat row holds, and whether it has the form of a history.
use Rattle.std.specs.Prelude.{ℕ, Bool, true, cond, not, ◌&&◌, List, [], ◌∷◌, length, ◌==◌, nat_le, nat_lt}
use Rattle.kinds.specs.Theory.{Theory}
use Rattle.kinds.specs.Laws.{most}
use Rattle.kinds.specs.Sequences.{growths, all_written}
use Rattle.histories.specs.declared.named.Named.{Named}
use Rattle.histories.specs.Named.{under, patches}
use Rattle.histories.specs.History.{holds}
use Rattle.histories.specs.Flat.{flat}

-- The most patches that a history has.
abbrev pub most_patches : ℕ
most_patches = 40

-- The most changes that all its patches have together.
abbrev pub most_changes : ℕ
most_changes = 160

module _ {P : Type 0} where
  -- One change more in front of a history: it joins the first patch if it has the name of that, and is a patch by itself if not.
  abbrev pub put_before : Named P → List (Named (List P)) → List (Named (List P))
  put_before c [] = under c.name (c.changes ∷ []) ∷ []
  put_before c (p ∷ h) = cond (c.name == p.name) (under p.name (c.changes ∷ p.changes) ∷ h) (under c.name (c.changes ∷ []) ∷ p ∷ h)

  -- The history in a flat row: neighbours of one name are one patch.
  abbrev pub grouped : List (Named P) → List (Named (List P))
  grouped [] = []
  grouped (c ∷ cs) = put_before c (grouped cs)

  -- Each name is one of 1 to the counter.
  abbrev pub numbered : ℕ → List (Named (List P)) → Bool
  numbered counter [] = true
  numbered counter (p ∷ h) = (nat_lt 0 p.name && nat_le p.name counter) && numbered counter h

-- No name stands there twice.
abbrev pub apart : {P : Type 0} (name : P → ℕ) → List P → Bool
apart name [] = true
apart name (p ∷ h) = not (holds name h (name p)) && apart name h

-- A history of the right form: its patches can be written, each of 1 to 8 changes; their names are 1 to the counter, and none stands there twice;
-- there are at most 40 patches and 160 changes, and their growths are 120 at most.
abbrev pub sound : {P F : Type 0} → Theory P F → ℕ → List (Named (List P)) → Bool
sound {P} T counter h =
    all_written (patches T) h && numbered counter h && apart (λ (w : Named (List P)). w.name) h
    && nat_le (length h) most_patches && nat_le (length (flat h)) most_changes && nat_le (growths (patches T) h) most
