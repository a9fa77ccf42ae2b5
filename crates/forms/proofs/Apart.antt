-- A history in which no name stands twice: its patches are told apart in a flat row.
use Rattle.std.proofs.Common.{◌≡◌, ℕ, ◌<◌, true, false, not, eqb, ltb, leb, List, [], ◌∷◌, ◌++◌, map, length, refl, ap, subst}
use Rattle.std.proofs.lemmas.Bool.{and_parts, and_from, or_parts, not-true, not_from_false, ltb-true}
use Rattle.kinds.specs.Theory.{Theory}
use Rattle.kinds.specs.Sequences.{all_written}
use Rattle.histories.specs.declared.named.Named.{Named}
use Rattle.histories.specs.Named.{under, one_to_eight, patches}
use Rattle.histories.specs.History.{holds}
use Rattle.histories.specs.Agreement.{WellFormed}
use Rattle.histories.proofs.Names.{Distinct, none, next, not_in, not_held, in_one_place}
use Rattle.histories.specs.Flat.{flat, OtherName, ToldApart}
use Rattle.forms.specs.Form.{apart}

module _ {P : Type 0} (name : P → ℕ) where
  -- no name stands there twice, as it is said of a well-formed history
  abbrev pub Once : List P → Type 0
  Once h = (ps : List P) (p : P) (qs : List P) → h ≡ ps ++ p ∷ qs → holds name (ps ++ qs) (name p) ≡ false

module _ {P : Type 0} (name : P → ℕ) where
  pub apart_distinct : (h : List P) → apart name h ≡ true → Distinct name h
  apart_distinct [] e = none
  apart_distinct (p ∷ h) e =
      let (a, b) = and_parts (not (holds name h (name p))) (apart name h) e in next (not_in (name p) h (not-true (holds name h (name p)) a)) (apart_distinct h b)

  -- What the test tells, in the words of a well-formed history. Nothing cites it yet.
  pub apart_once : (h : List P) → apart name h ≡ true → Once name h
  apart_once h e ps p qs parts = not_held (name p) (ps ++ qs) (in_one_place ps p qs (subst (Distinct name) parts (apart_distinct h e)))

  pub once_apart : (h : List P) → Once name h → apart name h ≡ true
  once_apart [] o = refl
  once_apart (p ∷ h) o =
      and_from (not (holds name h (name p))) (apart name h) (not_from_false (holds name h (name p)) (o [] p h refl))
      (once_apart h (λ ps q qs e. (or_parts (eqb (name p) (name q)) (holds name (ps ++ qs) (name q)) (o (p ∷ ps) q qs (ap (λ z. p ∷ z) e))).1))

module _ {P : Type 0} where
  -- each patch has changes
  abbrev pub AllSome : List (Named (List P)) → Type 0
  AllSome [] = Unit {0}
  AllSome (p ∷ h) = (0 < length p.changes) × AllSome h

  pub other_name : (n : ℕ) (h : List (Named (List P))) → holds (λ w. w.name) h n ≡ false → OtherName n (flat h)
  other_name n [] e = tt
  other_name n (p ∷ h) e = on p.changes (or_parts (eqb p.name n) (holds (λ (w : Named (List P)). w.name) h n) e) (other_name n h)
    where
      on : (cs : List P) → (eqb p.name n ≡ false) × (holds (λ (w : Named (List P)). w.name) h n ≡ false)
          → (holds (λ (w : Named (List P)). w.name) h n ≡ false → OtherName n (flat h)) → OtherName n (map (under p.name) cs ++ flat h)
      on [] e below = below e.1
      on (c ∷ cs) e below = e.0

  pub apart_told : (h : List (Named (List P))) → apart (λ w. w.name) h ≡ true → AllSome h → ToldApart h
  apart_told [] e s = tt
  apart_told (p ∷ h) e s =
      let (a, b) = and_parts (not (holds (λ (w : Named (List P)). w.name) h p.name)) (apart (λ (w : Named (List P)). w.name) h) e in
      (s.0, other_name p.name h (not-true (holds (λ (w : Named (List P)). w.name) h p.name) a), apart_told h b s.1)

  -- Told apart, they have changes. Nothing cites it yet.
  pub told_some : (h : List (Named (List P))) → ToldApart h → AllSome h
  told_some [] t = tt
  told_some (p ∷ h) t = (t.0, told_some h t.2)

module _ {P F : Type 0} (T : Theory P F) where
  -- patches that can be written have changes
  pub written_some : (h : List (Named (List P))) → all_written (patches T) h ≡ true → AllSome h
  written_some [] e = tt
  written_some (p ∷ h) e =
      let (a, b) = and_parts ((patches T).written p) (all_written (patches T) h) e in
      let (c, d) = and_parts (one_to_eight p.changes) (all_written T p.changes) a in
      (ltb-true 0 (length p.changes) (and_parts (ltb 0 (length p.changes)) (leb (length p.changes) 8) c).0, written_some h b)

  pub well_formed_apart : (h : List (Named (List P))) → WellFormed (patches T) (λ w. w.name) h → apart (λ w. w.name) h ≡ true
  well_formed_apart h w = once_apart (λ (w : Named (List P)). w.name) h w.once

  -- What the flat row of a well-formed history keeps, as merging asks it. Nothing cites it yet.
  pub well_formed_told : (h : List (Named (List P))) → WellFormed (patches T) (λ w. w.name) h → ToldApart h
  well_formed_told h w = apart_told h (well_formed_apart h w) (written_some h w.writable)
