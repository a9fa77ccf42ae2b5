-- The first entries of a row, and entries written behind the first ones of a Vec.
use Rattle.std.proofs.Common.{◌≡◌, ℕ, ◌+◌, ◌-◌, ◌≤◌, cond, leb, List, [], ◌++◌, length, take, drop, vec_items, vec_len, Vec, sym, refl, ap, ◌∙◌, subst, arith}
use borrow.Rule.Slice.PartMut.{put_mid, same_len_mid}
use Rattle.std.specs.Vec.{with_items}
use Rattle.std.specs.List.{between}
use Rattle.std.proofs.lemmas.List.{length-drop, length-take-le, with_items_is}
use Rattle.std.proofs.lemmas.Slice.{take-put_mid}
use Rattle.std.proofs.lemmas.Bool.{le-leb, cond-true}
use Rattle.memory.specs.Write.{first, appended}

-- The first entries of a row that has so many.
pub first_is : {A : Type 0} (count : ℕ) (xs : List A) → count ≤ length xs → take count xs ≡ first count xs
first_is count xs h = sym (cond-true (leb count (length xs)) (take count xs) [] (le-leb count (length xs) h))

module _ {A Z : Type 0} (v : Vec A Z) where
  -- The `count` entries from `start` on are written.
  module _ (start count end : ℕ) (e : end ≡ start + count) (w : end ≤ vec_len v) where
    module _ (lent ys xs : List A) (i : lent ≡ vec_items v) (l : length xs ≡ count) (h : length (between start end lent) ≡ count → ys ≡ xs) where
      part_written : take end (vec_items (with_items v (put_mid start (end - start) lent ys))) ≡ take start (vec_items v) ++ xs
      part_written =
          subst (λ z. take end (vec_items (with_items v (put_mid start (end - start) z ys))) ≡ take start (vec_items v) ++ xs) (sym i)
          (ap (take end) (with_items_is v (put_mid start (end - start) (vec_items v) ys) (same_len_mid start (end - start) (vec_items v) ys (ap length s ∙ l ∙ sym (part (vec_items v) refl)) ∙ sym v.ok.0))
          ∙ take-put_mid start (end - start) (vec_items v) ys end (e ∙ ap (λ z. start + z) (sym (ap length s ∙ l))) (let o = v.ok.0 in omega arith)
          ∙ ap (λ z. take start (vec_items v) ++ z) s)
        where
          part : (zs : List A) → zs ≡ vec_items v → length (between start end zs) ≡ count
          part zs j =
              let o = v.ok.0 in let d = length-drop start zs in let k = ap length j in let t : end - start ≤ length (drop start zs) = omega arith in
              length-take-le (end - start) (drop start zs) t ∙ omega arith

          s : ys ≡ xs
          s = h (part lent i)

      -- They stand behind the first `start`.
      pub all_appended : take end (vec_items (with_items v (put_mid start (end - start) lent ys))) ≡ appended (length (vec_items v)) (take start (vec_items v)) xs
      all_appended =
          let o = v.ok.0 in let k = length-take-le start (vec_items v) (omega arith) in
          part_written ∙ ap (λ b. take start (vec_items v) ++ cond b xs []) (sym (le-leb (length (take start (vec_items v)) + length xs) (length (vec_items v)) (omega arith)))
