-- The parts of a row whose changes have one name are its patches.
use Rattle.std.proofs.Common.{◌≡◌, ℕ, zero, suc, ◌+◌, ◌-◌, ◌<◌, ◌≤◌, Bool, true, false, eqb, List, [], ◌∷◌, ◌++◌, length, get_or, drop, None, refl, sym, ap, ◌∙◌, subst, arith, length-append}
use denote.Ref.{Bor}
use denote.Param.Members.{Mut}
use Rattle.std.specs.Fn.{ComputesOnPairs}
use Rattle.std.specs.Iterator.{Yields}
use Rattle.std.specs.List.{IsChunkByPrefix}
use Rattle.std.specs.Slice.Iter.{chunk_by_rest, chunk_by_callee, chunk_by_steps}
use Rattle.std.specs.declared.slice.ChunkBy.{ChunkBy}
use Rattle.std.proofs.lemmas.List.{drop_at, nil_from_length}
use Rattle.std.proofs.lemmas.Bool.{eqb-true, cond_both}
use Rattle.histories.specs.declared.named.Named.{Named}
use Rattle.forms.specs.Form.{put_before, grouped}

module _ {P : Type 0} where
  abbrev pub same_name : Named P → Named P → Bool
  same_name a b = eqb a.name b.name

  -- the first patch of a history has the name n
  abbrev Begun : ℕ → List (Named (List P)) → Type 0
  Begun n h = (p : Named (List P)) × (others : List (Named (List P))) × (h ≡ p ∷ others) × (p.name ≡ n)

  begun : (x : Named P) (h : List (Named (List P))) → Begun x.name (put_before x h)
  begun x [] = (_, _, refl, refl)
  begun x (p ∷ h) = cond_both (eqb x.name p.name) _ _ (Begun x.name) (λ e. (_, _, refl, sym (eqb-true x.name p.name e))) (λ e. (_, _, refl, refl))

  -- a change in front joins the first patch, or makes one more
  joins : (a : Named P) (n : ℕ) (h : List (Named (List P))) → Begun n h → eqb a.name n ≡ true → length (put_before a h) ≡ length h
  joins a n h (p, others, is, named) e = rw is (rw (subst (λ m. eqb a.name m ≡ true) (sym named) e) refl)

  one_more : (a : Named P) (n : ℕ) (h : List (Named (List P))) → Begun n h → eqb a.name n ≡ false → length (put_before a h) ≡ suc (length h)
  one_more a n h (p, others, is, named) e = rw is (rw (subst (λ m. eqb a.name m ≡ false) (sym named) e) refl)

  -- the longest front of one name is one patch
  front : (row : List (Named P)) (k : ℕ) → suc k ≤ length row → IsChunkByPrefix same_name row (suc k) → length (grouped row) ≡ suc (length (grouped (drop (suc k) row)))
  front [] k l c = absurd (omega arith)
  front (a ∷ []) zero l c = refl
  front (a ∷ b ∷ row) zero l (adjacent, border) = one_more a b.name (grouped (b ∷ row)) (begun b (grouped row)) (border (omega arith) a)
  front (a ∷ []) (suc k) l c = absurd (omega arith)
  front (a ∷ b ∷ row) (suc k) l (adjacent, border) =
      joins a b.name (grouped (b ∷ row)) (begun b (grouped row)) (adjacent 0 a (omega arith)) ∙ front (b ∷ row) k (omega arith) (inner, outer)
    where
      inner : (i : ℕ) (d : Named P) → i + 1 < suc k → same_name (get_or (b ∷ row) i d) (get_or (b ∷ row) (i + 1) d) ≡ true
      inner i d h = let e : suc i + 1 ≡ suc (i + 1) = omega arith in subst (λ j. same_name (get_or (b ∷ row) i d) (get_or (a ∷ b ∷ row) j d) ≡ true) e (adjacent (suc i) d (omega arith))

      outer : suc k < length (b ∷ row) → (d : Named P) → same_name (get_or (b ∷ row) (suc k - 1) d) (get_or (b ∷ row) (suc k) d) ≡ false
      outer h d = let e : suc (suc k) - 1 ≡ suc (suc k - 1) = omega arith in subst (λ j. same_name (get_or (a ∷ b ∷ row) j d) (get_or (b ∷ row) (suc k) d) ≡ false) e (border (omega arith) d)

  module _ {F : Type 0} (g : Mut F (Bor (Named P) × (Bor (Named P) × Unit {0})) Bool) where
    pub parts : (xs : List (Bor (List (Named P)))) (s t u : ChunkBy (Named P) F) → Yields (chunk_by_steps g) s xs t → chunk_by_steps g t None u
        → ComputesOnPairs g same_name (chunk_by_callee s) → length xs ≡ length (grouped (chunk_by_rest s))
    parts [] s t u y n c = sym (ap length (ap grouped (nil_from_length (chunk_by_rest s) (subst (λ v. length (chunk_by_rest v) ≡ 0) (sym y) n.0))))
    parts (x ∷ xs) s t u (j, (is, some, so), y) n c = on x.now is some (so same_name c).1 (parts xs j t u y n (so same_name c).0)
      where
        on : (part : List (Named P)) → chunk_by_rest s ≡ part ++ chunk_by_rest j → 0 < length part → IsChunkByPrefix same_name (chunk_by_rest s) (length part)
            → length xs ≡ length (grouped (chunk_by_rest j)) → suc (length xs) ≡ length (grouped (chunk_by_rest s))
        on [] is some so below = absurd (omega arith)
        on (a ∷ part) is some so below =
            ap suc (below ∙ ap (λ z. length (grouped z)) (sym (ap (drop (suc (length part))) is ∙ drop_at (a ∷ part) (chunk_by_rest j) (suc (length part)) refl)))
            ∙ sym (front (chunk_by_rest s) (length part) (let l = ap length is ∙ length-append (a ∷ part) (chunk_by_rest j) in omega arith) so)
