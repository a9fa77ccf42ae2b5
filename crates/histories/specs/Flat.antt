-- A history as a flat row: the changes of each patch one after the other, each under the patch's name.
use Rattle.std.specs.Prelude.{◌≡◌, ℕ, ◌<◌, false, List, [], ◌∷◌, ◌++◌, map, length, Ok, Err, Result, ◌==◌}
use Rattle.kinds.specs.Theory.{Theory}
use Rattle.kinds.specs.Parts.{part}
use Rattle.kinds.specs.Sequences.{and_then, answer_over}
use Rattle.histories.specs.declared.Stop.{Stop}
use Rattle.histories.specs.declared.named.Named.{Named}
use Rattle.histories.specs.Named.{under, named}
use Rattle.histories.specs.History.{stopped_at}

module _ {P : Type 0} where
  -- the changes of one patch
  abbrev pub flat_of : Named (List P) → List (Named P)
  flat_of p = map (under p.name) p.changes

  -- the changes of all patches
  abbrev pub flat : List (Named (List P)) → List (Named P)
  flat [] = []
  flat (p ∷ h) = flat_of p ++ flat h

  -- a patch that was passed over others: their changes, and those of the patch
  abbrev pub flat_both : Result (List (Named (List P)) × Named (List P)) Stop → Result (List (Named P) × List (Named P)) Stop
  flat_both = part (λ s. (flat s.0, flat_of s.1)) (λ x. x)

  -- Some changes stand behind all others of a row, where `before` did not take part, and r is the number of the others; or what stopped them.
  abbrev pub ToEnd : List (Named P) → Result (List (Named P) × List (Named P)) Stop → Result ℕ Stop → List (Named P) → Type 0
  ToEnd before (Ok s) r left = (r ≡ Ok (length (before ++ s.0))) × (left ≡ (before ++ s.0) ++ s.1)
  ToEnd before (Err x) r left = r ≡ Err x

  -- the first of the changes, if there is one, has another name
  abbrev pub OtherName : ℕ → List (Named P) → Type 0
  OtherName n [] = Unit {0}
  OtherName n (x ∷ xs) = (x.name == n) ≡ false

  -- Each patch has changes, and another name than the next: so its changes are told from those of its neighbours.
  abbrev pub ToldApart : List (Named (List P)) → Type 0
  ToldApart [] = Unit {0}
  ToldApart (p ∷ h) = (0 < length p.changes) × OtherName p.name (flat h) × ToldApart h

  -- A row begins with the changes of the patch that was merged, as many as it had before; or what stopped it.
  abbrev pub BeginsWith : ℕ → Result (Named (List P)) Stop → Result (Unit {0}) Stop → List (Named P) → Type 0
  BeginsWith count (Ok z) r left = (r ≡ Ok tt) × (length z.changes ≡ count) × ((free : List (Named P)) × (left ≡ flat_of z ++ free))
  BeginsWith count (Err x) r left = r ≡ Err x

-- The changes ps pass right over all of qs: qs as they are then, and ps. Or else what stops them: the first that refuses, told by its name.
abbrev pub passing_by : {P F : Type 0} → Theory P F → List (Named P) → List (Named P) → Result (List (Named P) × List (Named P)) Stop
passing_by T ps [] = Ok ([], ps)
passing_by T ps (q ∷ qs) =
    and_then (part (λ s. s) (stopped_at (λ p. p.name) q) (answer_over (named T) ps q)) (λ (q', ps'). and_then (passing_by T ps' qs) (λ (qs', ps''). Ok (q' ∷ qs', ps'')))
