-- How much changes and patches grow a document.
use Rattle.std.proofs.Common.{◌≡◌, ℕ, ◌+◌, ◌*◌, List, [], ◌∷◌, map, sym, refl, ap, ◌∙◌, arith}
use Rattle.std.specs.List.{fold, sum_by}
use Rattle.std.proofs.lemmas.List.Sums.{sum_by-cons}
use Rattle.std.proofs.lemmas.List.Recursion.{is_sum_by}
use Rattle.kinds.specs.Theory.{Theory}
use Rattle.kinds.specs.Bounded.{saturated}
use Rattle.kinds.specs.Sequences.{growths, inverses}
use Rattle.kinds.proofs.Sequences.{growths_append}
use Rattle.kinds.proofs.Totals.{saturated_total}
use Rattle.histories.specs.declared.named.Named.{Named}
use Rattle.histories.specs.Named.{under, named, patches}
use Rattle.histories.specs.Flat.{flat_of, flat}
use Rattle.forms.specs.Form.{grouped}
use Rattle.forms.proofs.Grouping.{flat_grouped}

-- told one by one
module _ {P : Type 0} (each : P → ℕ) where
  abbrev pub told : ℕ → P → ℕ
  told sum c = saturated (1 * saturated (each c) + sum)

  told_on : (n : ℕ) (cs : List P) → fold told (saturated n) cs ≡ saturated (n + sum_by each cs)
  told_on n [] = ap saturated (omega arith)
  told_on n (c ∷ cs) =
      let k = sum_by-cons each c cs in
      ap (λ m. fold told m cs) (saturated_total 1 (each c) n (omega arith) ∙ ap saturated (omega arith)) ∙ told_on (n + each c) cs ∙ ap saturated (omega arith)

  pub told_all : (cs : List P) → fold told 0 cs ≡ saturated (sum_by each cs)
  told_all cs = told_on 0 cs ∙ ap saturated (omega arith)

module _ {P F : Type 0} (T : Theory P F) where
  pub growths_sum : (cs : List P) → growths T cs ≡ sum_by T.growth cs
  growths_sum = is_sum_by (growths T) T.growth refl (λ c cs. refl)

  pub inverses_sum : (cs : List P) → growths T (inverses T cs) ≡ sum_by (λ c. T.growth (T.invert c)) cs
  inverses_sum = is_sum_by (λ cs. growths T (inverses T cs)) (λ c. T.growth (T.invert c)) refl
      (λ c cs. growths_append T (inverses T cs) (T.invert c ∷ []) ∙ omega arith)

  -- as much as its changes
  growths_flat : (h : List (Named (List P))) → growths (named T) (flat h) ≡ growths (patches T) h
  growths_flat [] = refl
  growths_flat (p ∷ h) = growths_append (named T) (flat_of p) (flat h) ∙ ap (λ n. n + growths (named T) (flat h)) (on p.changes) ∙ ap (λ n. growths T p.changes + n) (growths_flat h)
    where
      on : (cs : List P) → growths (named T) (map (under p.name) cs) ≡ growths T cs
      on [] = refl
      on (c ∷ cs) = ap (λ n. T.growth c + n) (on cs)

  pub growths_grouped : (row : List (Named P)) → growths (named T) row ≡ growths (patches T) (grouped row)
  growths_grouped row = ap (growths (named T)) (sym (flat_grouped row)) ∙ growths_flat (grouped row)
