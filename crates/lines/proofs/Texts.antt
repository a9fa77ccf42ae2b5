-- The bytes of note lines.
use Rattle.std.proofs.Common.{◌≡◌, ℕ, zero, suc, ◌+◌, ◌-◌, ◌<◌, ◌≤◌, Bool, cond, List, [], ◌∷◌, ◌++◌, length, get_or, drop, replicate, ap, ◌∙◌, ⊎_elim, arith}
use Rattle.std.proofs.lemmas.Bool.{cases_lt}
use Rattle.std.proofs.lemmas.List.{drop_more, drop_all, get_or_past}
use Rattle.lines.specs.Note.{zeros, text_and_zeros, padded}

-- what the rest of a note's bytes must be, behind zeros or not
abbrev pub rest_fits : Bool → List ℕ → Bool
rest_fits ended bs = cond ended (zeros bs) (text_and_zeros bs)

-- n bytes of a text from the place i on, with zeros behind it
abbrev pub reads : ℕ → ℕ → List ℕ → List ℕ
reads zero i text = []
reads (suc n) i text = get_or text i 0 ∷ reads n (i + 1) text

reads_is : (n i : ℕ) (text : List ℕ) → length text ≤ i + n → reads n i text ≡ drop i text ++ replicate (n - (length text - i)) 0
reads_is zero i text l =
    let z : zero - (length text - i) ≡ 0 = omega arith in
    rw (drop_all i text (omega arith), z)
reads_is (suc n) i text l = ⊎_elim inside past (cases_lt i (length text)) (reads_is n (i + 1) text (omega arith))
  where
    More : Type 0
    More = reads n (i + 1) text ≡ drop (i + 1) text ++ replicate (n - (length text - (i + 1))) 0

    inside : i < length text → More → get_or text i 0 ∷ reads n (i + 1) text ≡ drop i text ++ replicate (suc n - (length text - i)) 0
    inside k more =
        let e : suc n - (length text - i) ≡ n - (length text - (i + 1)) = omega arith in
        rw (more, e, drop_more text i 0 k)

    past : length text ≤ i → More → get_or text i 0 ∷ reads n (i + 1) text ≡ drop i text ++ replicate (suc n - (length text - i)) 0
    past k more =
        let e : suc n - (length text - i) ≡ suc n = omega arith in
        let f : n - (length text - (i + 1)) ≡ n = omega arith in
        rw (more, e, f, drop_all i text k, drop_all (i + 1) text (omega arith), get_or_past text i 0 k)

pub reads_padded : (text : List ℕ) → length text ≤ 16 → reads 16 0 text ≡ padded text
reads_padded text l = let e : length text - 0 ≡ length text = omega arith in reads_is 16 0 text (omega arith) ∙ ap (λ n. text ++ replicate (16 - n) 0) e
