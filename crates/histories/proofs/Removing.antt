-- A patch that was passed to the end is removed, or undone.
use Rattle.std.proofs.Common.{◌≡◌, ℕ, Bool, true, false, not, ◌&&◌, eqb, List, [], ◌∷◌, ◌++◌, Ok, sym, refl, ◌∙◌, ⊎_elim, true≢false, append-nil}
use Rattle.std.proofs.lemmas.Bool.{eq-eqb, ne_eqb, and_parts, and_from, not-true, not_from_false}
use Rattle.kinds.specs.Theory.{Theory}
use Rattle.kinds.proofs.Sequences.{Run as AllTake, end, step, of_run, run_join}
use Rattle.histories.specs.History.{Rearranged, holds, passed}
use Rattle.histories.specs.Agreement.{SameDocument}
use Rattle.histories.proofs.Setting.{Setting}
use Rattle.histories.proofs.Names.{In, in_head, Distinct, in_left, in_split, single, the_last, in_of_holds, holds_of_in, distinct_apart}
use Rattle.histories.proofs.Rearranging.{stays_in, was_in, stays_distinct}
use Rattle.histories.proofs.Passing.{row_name}
use Rattle.histories.proofs.Standing.{Stands}
use Rattle.histories.proofs.ToEnd.{passed_row, passed_last, passed_stands}

-- two tests that are true of the same
pub same_test : (a b : Bool) → (a ≡ true → b ≡ true) → (b ≡ true → a ≡ true) → a ≡ b
same_test true b f g = sym (f refl)
same_test false true f g = g refl
same_test false false f g = refl

module _ {P F : Type 0} {T : Theory P F} {name : P → ℕ} (S : Setting T name) where
  open T use {Doc, fresh, apply, invert, written}

  -- its name is gone, and no other
  pub without : (ps : List P) (p : P) (qs rest : List P) (last : P) → Distinct name (ps ++ p ∷ qs) → passed T name p qs ≡ Ok (rest, last)
      → (n : ℕ) → holds name (ps ++ rest) n ≡ (holds name (ps ++ p ∷ qs) n && not (eqb (name p) n))
  without ps p qs rest last d f n = same_test (holds name (ps ++ rest) n) (holds name (ps ++ p ∷ qs) n && not (eqb (name p) n)) still else
    where
      whole : Rearranged T (ps ++ p ∷ qs) ((ps ++ rest) ++ last ∷ [])
      whole = passed_last S ps p qs rest last f

      once : Distinct name ((ps ++ rest) ++ last ∷ [])
      once = stays_distinct S whole d

      arrives : name p ≡ name last
      arrives = row_name S (passed_row S p qs (rest, last) f)

      still : holds name (ps ++ rest) n ≡ true → (holds name (ps ++ p ∷ qs) n && not (eqb (name p) n)) ≡ true
      still e =
          let i = in_of_holds n (ps ++ rest) e in
          let other : name p ≡ n → ⊥ = λ k. distinct_apart (ps ++ rest) (last ∷ []) once n i (in_head (sym arrives ∙ k)) in
          and_from _ _ (holds_of_in (was_in S whole (in_left (last ∷ []) i))) (not_from_false _ (ne_eqb (name p) n other))

      else : (holds name (ps ++ p ∷ qs) n && not (eqb (name p) n)) ≡ true → holds name (ps ++ rest) n ≡ true
      else e =
          let (a, b) = and_parts _ _ e in
          let other : In name n (last ∷ []) → ⊥ = λ i. true≢false (sym (eq-eqb (name p) n (arrives ∙ single i)) ∙ not-true _ b) in
          holds_of_in (⊎_elim (λ i. i) (λ i. absurd (other i)) (in_split (ps ++ rest) (stays_in S whole (in_of_holds n (ps ++ p ∷ qs) a))))

  -- its inverse, at the end, can be written, and does the same
  pub inverse_written : (ps : List P) (p : P) (qs rest : List P) (last : P) (e : Doc) → Stands T fresh (ps ++ p ∷ qs) e → passed T name p qs ≡ Ok (rest, last) → written (invert last) ≡ true
  inverse_written ps p qs rest last e s f =
      let (_, _, y) = passed_stands S ps p qs rest last f s in
      S.lawful.stays_written.inverted last (and_parts _ _ y.written).0

  pub undone : (ps : List P) (p : P) (qs rest : List P) (last : P) (e : Doc) → Stands T fresh (ps ++ p ∷ qs) e → passed T name p qs ≡ Ok (rest, last)
      → (u : P) → apply u ≡ apply (invert last) → SameDocument T ((ps ++ p ∷ qs) ++ u ∷ []) (ps ++ rest)
  undone ps p qs rest last e s f u k =
      let (d, x, y) = passed_stands S ps p qs rest last f s in
      (d, of_run T 0 (run_join T s.takes (undo_one y.takes)), of_run T 0 x.takes)
    where
      undo_one : {d e : Doc} → AllTake T (last ∷ []) d e → AllTake T (u ∷ []) e d
      undo_one {d} {e} (step a end) = step ((λ i. k i e) ∙ (S.lawful.undo.takes_back last d e).0 a) end

  -- the last patch is passed over none
  pub taken_back : (h : List P) (z : P) → Distinct name (h ++ z ∷ []) → (ps : List P) (p : P) (qs : List P) → h ++ z ∷ [] ≡ ps ++ p ∷ qs → name p ≡ name z
      → (passed T name p qs ≡ Ok ([], z)) × (ps ++ [] ≡ h)
  taken_back h z d ps p qs e k =
      let (i, j, l) = the_last h z ps p qs d e k in
      (rw (← l, j), append-nil ps ∙ sym i)
