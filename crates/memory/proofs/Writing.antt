-- The inverse of changes, each under a name.
use Rattle.std.proofs.Common.{◌≡◌, ℕ, suc, ◌-◌, ◌<◌, ◌≤◌, ◌⊎◌, List, [], ◌∷◌, ◌++◌, map, length, get_or, sym, ap, ◌∙◌, inl, inr, arith}
use Rattle.std.proofs.lemmas.Bool.{cases_lt}
use Rattle.std.proofs.lemmas.List.{length-map, get_or-map, get_or_append_left}
use Rattle.std.proofs.Math.Seq.{get_or-append_seam}
use Rattle.kinds.specs.Theory.{Theory}
use Rattle.kinds.specs.Sequences.{inverses}
use Rattle.kinds.proofs.Sequences.{inverses_length}
use Rattle.histories.specs.declared.named.Named.{Named}
use Rattle.histories.specs.Named.{under}

module _ {P F : Type 0} (T : Theory P F) where
  -- The inverse at a place is that of the change as far from the end.
  inverse_at : (cs : List P) (i : ℕ) (d e : P) → i < length cs → get_or (inverses T cs) i e ≡ T.invert (get_or cs (length cs - 1 - i) d)
  inverse_at [] i d e h = absurd (omega arith)
  inverse_at (c ∷ cs) i d e h = on (cases_lt i (length cs)) (inverse_at cs i d e)
    where
      on : (i < length cs) ⊎ (length cs ≤ i) → (i < length cs → get_or (inverses T cs) i e ≡ T.invert (get_or cs (length cs - 1 - i) d))
          → get_or (inverses T (c ∷ cs)) i e ≡ T.invert (get_or (c ∷ cs) (length (c ∷ cs) - 1 - i) d)
      on (inl l) k =
          let j = inverses_length T cs in let z : length (c ∷ cs) - 1 - i ≡ suc (length cs - 1 - i) = omega arith in
          get_or_append_left (inverses T cs) (T.invert c ∷ []) e i (omega arith) ∙ k l ∙ ap (λ n. T.invert (get_or (c ∷ cs) n d)) (sym z)
      on (inr l) k =
          let z : length (c ∷ cs) - 1 - i ≡ 0 = omega arith in let j : i ≡ length (inverses T cs) = omega (arith, inverses_length T cs) in
          ap (λ n. get_or (inverses T cs ++ T.invert c ∷ []) n e) j ∙ get_or-append_seam (inverses T cs) (T.invert c) [] e ∙ ap (λ n. T.invert (get_or (c ∷ cs) n d)) (sym z)

  module _ (name : ℕ) (cs : List (Named P)) where
    abbrev pub inverted : List (Named P)
    inverted = map (under name) (inverses T (map (λ (c : Named P). c.changes) cs))

    pub inverted_length : length inverted ≡ length cs
    inverted_length = length-map (inverses T (map (λ (c : Named P). c.changes) cs)) (under name) ∙ inverses_length T (map (λ (c : Named P). c.changes) cs) ∙ length-map cs (λ (c : Named P). c.changes)

    -- Its entry at a place.
    pub inverted_at : (i : ℕ) (x y : Named P) → i < length inverted → get_or inverted i x ≡ under name (T.invert (get_or cs (length cs - 1 - i) y).changes)
    inverted_at i x y h =
        let l = length-map (inverses T (map (λ (c : Named P). c.changes) cs)) (under name) in let k = inverses_length T (map (λ (c : Named P). c.changes) cs) in
        let m = length-map cs (λ (c : Named P). c.changes) in
        get_or-map (under name) (inverses T (map (λ (c : Named P). c.changes) cs)) i x.changes x (omega arith)
        ∙ ap (under name) (inverse_at (map (λ (c : Named P). c.changes) cs) i y.changes x.changes (omega arith)
        ∙ ap (λ n. T.invert (get_or (map (λ (c : Named P). c.changes) cs) (n - 1 - i) y.changes)) m
        ∙ ap T.invert (get_or-map (λ (c : Named P). c.changes) cs (length cs - 1 - i) y y.changes (omega arith)))
