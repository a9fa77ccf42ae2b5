-- A patch of a row, carried over some that stand in front of it: what is lent for it, and what stands in the row then.
use Rattle.std.proofs.Common.{◌≡◌, ℕ, ◌+◌, ◌-◌, List, [], ◌∷◌, ◌++◌, length, get_or, take, drop, sym, ap, ◌∙◌, append_assoc, arith, length-append}
use borrow.Rule.Slice.PartMut.{put_mid}
use Rattle.std.specs.List.{between}
use Rattle.std.proofs.lemmas.List.{take_at, drop_at, get_or_at}

-- c stands at the place i, behind the `others` from the place k on
module _ {X : Type 0} (row front others : List X) (c : X) (cs : List X) (k i : ℕ) (parts : row ≡ front ++ (others ++ c ∷ cs)) (so_many : length front ≡ k) (so_far : length front + length others ≡ i) where
  whole : row ≡ front ++ ((others ++ c ∷ []) ++ cs)
  whole = parts ∙ ap (λ y. front ++ y) (sym (append_assoc others (c ∷ []) cs))

  behind_is : drop k row ≡ (others ++ c ∷ []) ++ cs
  behind_is = ap (drop k) whole ∙ drop_at front ((others ++ c ∷ []) ++ cs) k so_many

  as_long : length (others ++ c ∷ []) ≡ i + 1 - k
  as_long = length-append others (c ∷ []) ∙ omega arith

  pub lent_is : between k (i + 1) row ≡ others ++ c ∷ []
  lent_is = ap (take (i + 1 - k)) behind_is ∙ take_at (others ++ c ∷ []) cs (i + 1 - k) as_long

  pub next_is : (x : X) → get_or row i x ≡ c
  next_is x = ap (λ y. get_or y i x) (parts ∙ sym (append_assoc front others (c ∷ cs))) ∙ get_or_at (front ++ others) c cs x i (length-append front others ∙ so_far)

  -- it stands in front of the others, as they are then
  module _ (mid : List X) (c' : X) (others' : List X) (j : mid ≡ c' ∷ others') (l : length mid ≡ length (between k (i + 1) row)) where
    pub put_back : put_mid k (i + 1 - k) row mid ≡ (front ++ c' ∷ []) ++ (others' ++ cs)
    put_back =
        let start : take k row ≡ front = ap (take k) whole ∙ take_at front ((others ++ c ∷ []) ++ cs) k so_many in
        let rest : drop (i + 1 - k) (drop k row) ≡ cs = ap (drop (i + 1 - k)) behind_is ∙ drop_at (others ++ c ∷ []) cs (i + 1 - k) as_long in
        ap (λ y. y ++ (mid ++ drop (i + 1 - k) (drop k row))) start ∙ ap (λ y. front ++ (mid ++ y)) rest ∙ ap (λ y. front ++ (y ++ cs)) j
        ∙ sym (append_assoc front (c' ∷ []) (others' ++ cs))

    pub as_many : length others' ≡ length others
    as_many = omega (arith, ap length (sym j) ∙ l ∙ ap length lent_is ∙ length-append others (c ∷ []))

    pub one_more : length (front ++ c' ∷ []) ≡ k + 1
    one_more = length-append front (c' ∷ []) ∙ omega arith
