-- Needed patches that came to the front of a flat row.
use Rattle.std.specs.Prelude.{◌≡◌, ℕ, List, ◌++◌, length, Ok, Err, Result}
use Rattle.kinds.specs.declared.answers.Clash.{Clash}
use Rattle.histories.specs.declared.named.Named.{Named}
use Rattle.histories.specs.Flat.{flat}

-- Some changes stand in front of the others, and r is their number; or what stopped one of them.
abbrev pub ComeFirst : {X : Type 0} → Result (List X × List X) Clash → Result ℕ Clash → List X → Type 0
ComeFirst (Ok s) r left = (r ≡ Ok (length s.0)) × (left ≡ s.0 ++ s.1)
ComeFirst (Err c) r left = r ≡ Err c

-- The changes of some patches stand in front of those of the others, and r is their number. Or one of the patches was stopped, and so is one of their changes:
-- which clash is met first depends on the order, so any may be told.
abbrev pub Gathers : {P : Type 0} → Result (List (Named (List P)) × List (Named (List P))) Clash → Result ℕ Clash → List (Named P) → Type 0
Gathers (Ok s) r left = (r ≡ Ok (length (flat s.0))) × (left ≡ flat s.0 ++ flat s.1)
Gathers (Err c) r left = (d : Clash) × (r ≡ Err d)
