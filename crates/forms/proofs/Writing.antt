-- Changes that can be written, and the first that cannot.
use Rattle.std.proofs.Common.{◌≡◌, ℕ, ◌+◌, Bool, true, false, cond, not, ◌&&◌, ltb, leb, List, [], ◌∷◌, map, is_some, Some, None, sym, refl, ap, ◌∙◌}
use Rattle.std.specs.List.{position_from, list_all}
use Rattle.std.proofs.lemmas.List.{length-map}
use Rattle.std.proofs.lemmas.Bool.{not-false}
use Rattle.kinds.specs.Theory.{Theory}
use Rattle.kinds.specs.Sequences.{all_written}
use Rattle.histories.specs.declared.named.Named.{Named}
use Rattle.histories.specs.Named.{under, named, one_to_eight, patches}
use Rattle.histories.specs.Flat.{flat_of}
use Rattle.forms.specs.Find.{unwritable}

module _ {P F : Type 0} (T : Theory P F) where
  pub first_found : (i : ℕ) (cs : List P) → position_from (λ c. not (T.written c)) i cs ≡ unwritable T i cs
  first_found i [] = refl
  first_found i (c ∷ cs) = on (T.written c) (first_found (i + 1) cs)
    where
      on : (b : Bool) → position_from (λ c. not (T.written c)) (i + 1) cs ≡ unwritable T (i + 1) cs
          → cond (not b) (Some i) (position_from (λ c. not (T.written c)) (i + 1) cs) ≡ cond b (unwritable T (i + 1) cs) (Some i)
      on true below = below
      on false below = refl

  pub all_are : (cs : List P) → list_all T.written cs ≡ all_written T cs
  all_are [] = refl
  all_are (c ∷ cs) = ap (λ (b : Bool). T.written c && b) (all_are cs)

  -- all can be written if none is found that cannot
  pub none_unwritable : (i : ℕ) (cs : List P) → is_some (unwritable T i cs) ≡ not (all_written T cs)
  none_unwritable i [] = refl
  none_unwritable i (c ∷ cs) = on (none_unwritable (i + 1) cs) (T.written c)
    where
      on : is_some (unwritable T (i + 1) cs) ≡ not (all_written T cs) → (b : Bool) → is_some (cond b (unwritable T (i + 1) cs) (Some i)) ≡ not (b && all_written T cs)
      on below true = below
      on below false = refl

  pub all_writable : (i : ℕ) (cs : List P) → unwritable T i cs ≡ None → all_written T cs ≡ true
  all_writable i cs e = not-false (all_written T cs) (sym (none_unwritable i cs) ∙ ap is_some e)

  -- the changes of a patch, under its name
  pub flat_written : (p : Named (List P)) → one_to_eight (flat_of p) && all_written (named T) (flat_of p) ≡ (patches T).written p
  flat_written p =
      ap (λ (n : ℕ). (ltb 0 n && leb n 8) && all_written (named T) (flat_of p)) (length-map p.changes (under p.name))
      ∙ ap (λ (b : Bool). one_to_eight p.changes && b) (on p.changes)
    where
      on : (cs : List P) → all_written (named T) (map (under p.name) cs) ≡ all_written T cs
      on [] = refl
      on (c ∷ cs) = ap (λ (b : Bool). T.written c && b) (on cs)
