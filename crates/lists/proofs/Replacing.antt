-- The new lines of a hunk, written into the words of a list.
use Rattle.std.proofs.Common.{◌≡◌, ℕ, ◌+◌, ◌-◌, ◌*◌, ◌≤◌, max, List, ◌++◌, length, take, drop, replicate, sym, refl, ap, ◌∙◌, append_assoc, mul-le-mul_right, mul_comm, add-mul, arith, length-append, length-drop, length-take}
use native.Mathlib.Nat.{mul-sub}
use borrow.Rule.Slice.PartMut.{put_mid}
use Rattle.std.specs.List.{flat_map}
use Rattle.std.proofs.lemmas.List.{length-replicate, replicate-append-replicate, take_at, drop_at}
use Rattle.kinds.specs.Bounded.{saturated}
use Rattle.kinds.specs.Laws.{most}
use Rattle.lists.specs.declared.hunk.Hunk.{Hunk}
use Rattle.lines.specs.Line.{Form}
use Rattle.lists.specs.Hunk.{lines_of, count, filled_up}
use Rattle.lists.specs.Proofs.Filling.{Fills, joined_three, length_joined}
use Rattle.lists.specs.Proofs.Steps.{Step, sizes}

sub_mul : (m n k : ℕ) → (m - n) * k ≡ m * k - n * k
sub_mul m n k = mul_comm (m - n) k ∙ mul-sub k m n ∙ (λ i. mul_comm k m i - mul_comm k n i)

-- zeros for so many lines of w words, in two parts
zeros_parts : (lines m n rest w : ℕ) → lines ≡ m - n + rest → ◌≡◌ {A = List ℕ} (replicate (lines * w) 0) (replicate (m * w - n * w) 0 ++ replicate (rest * w) 0)
zeros_parts lines m n rest w e =
    let f : lines * w ≡ m * w - n * w + rest * w = ap (λ k. k * w) e ∙ add-mul (m - n) rest w ∙ ap (λ k. k + rest * w) (sub_mul m n w) in
    ap (λ k. replicate {A = ℕ} k 0) f ∙ sym (replicate-append-replicate (m * w - n * w) (rest * w) 0)

-- the words of the lines from s on, up to `top` lines: o, then b, and then as many as n is above o
words_on : (s o n b top w : ℕ) → top ≡ s + (o + (b + (n - o))) → o * w + (b * w + (n * w - o * w)) ≡ top * w - s * w
words_on s o n b top w e =
    let g : top * w ≡ s * w + (o * w + (b * w + (n - o) * w)) =
    ap (λ k. k * w) e ∙ add-mul s (o + (b + (n - o))) w ∙ ap (λ k. s * w + k) (add-mul o (b + (n - o)) w ∙ ap (λ k. o * w + k) (add-mul b (n - o) w)) in
    omega (arith, sub_mul n o w)

regroup : (a b c d e : List ℕ) → a ++ ((b ++ (c ++ d)) ++ e) ≡ a ++ (b ++ (c ++ (d ++ e)))
regroup a b c d e = simp append_assoc

-- the longer of two lists lies in the words
pub top_fits : (len next top w width n : ℕ) → top ≡ max len next → len ≤ most → next ≤ most → w ≡ saturated width → n ≡ most * width → top * w ≤ n
top_fits len next top w width n t l m s e =
    let a : top * w ≤ most * w = mul-le-mul_right w (omega arith) in
    omega arith

-- the words of k lines from s on lie in the part that ends at `top` lines
pub lines_fit : (s k top w : ℕ) (lines : List ℕ) → s + k ≤ top → top * w ≤ length lines → k * w ≤ length (take (top * w - s * w) (drop (s * w) lines))
lines_fit s k top w lines l m =
    let a : (s + k) * w ≤ top * w = mul-le-mul_right w l in
    let b = add-mul s k w in
    simp (length-take, length-drop) (omega arith)

-- a list of `len` lines, then of `next` lines, and of `top` at most; o and n are the numbers of old and new lines, and w is the number of words of a line
module _ {L : Type 0} (F : Form L) (fills : Fills F) (h : Hunk L) (d e : List L) (st : Step h d e) (len next top o n w : ℕ)
    (d-len : length d ≡ len) (olds : o ≡ count h.old) (news : n ≡ count h.new) (width : w ≡ F.width)
    (sums : next + o ≡ len + n) (higher : top ≡ max len next) (len-fits : len ≤ most) (next_fits : next ≤ most) where
  length_words : (ls : List L) (k : ℕ) → length ls ≡ k → length (flat_map F.encode ls) ≡ k * w
  length_words ls k i = length_joined F fills ls ∙ (λ t. i t * sym width t)

  pub replaced_words : (lines cleared after : List ℕ) → lines ≡ filled_up F d
      → ((front behind : List ℕ) → length front ≡ o * w → take (top * w - h.start * w) (drop (h.start * w) lines) ≡ front ++ (behind ++ replicate (n * w - o * w) 0)
      → drop (n * w) cleared ≡ behind ++ replicate (o * w - n * w) 0)
      → after ≡ flat_map F.encode (lines_of h.new) ++ drop (count h.new * F.width) cleared
      → put_mid (h.start * w) (top * w - h.start * w) lines after ≡ filled_up F e
  replaced_words lines cleared after q moves writes =
      let s = h.start in
      let b = length st.behind in
      let ja : List ℕ = flat_map F.encode st.front in
      let jo : List ℕ = flat_map F.encode (lines_of h.old) in
      let jn : List ℕ = flat_map F.encode (lines_of h.new) in
      let jb : List ℕ = flat_map F.encode st.behind in
      let more : List ℕ = replicate (n * w - o * w) 0 in
      let fewer : List ℕ = replicate (o * w - n * w) 0 in
      let rest : List ℕ = replicate ((most - top) * w) 0 in
      let sized = sizes h d e st in
      let z : replicate ((most - length d) * F.width) 0 ≡ more ++ rest = (λ t. replicate ((most - length d) * sym width t) 0) ∙ zeros_parts (most - length d) n o (most - top) w (omega arith) in
      let y : replicate ((most - length e) * F.width) 0 ≡ fewer ++ rest = (λ t. replicate ((most - length e) * sym width t) 0) ∙ zeros_parts (most - length e) o n (most - top) w (omega arith) in
      let p : lines ≡ ja ++ ((jo ++ (jb ++ more)) ++ rest) = q ∙ (λ t. flat_map F.encode (st.was t) ++ z t) ∙ joined_three F st.front (lines_of h.old) st.behind (more ++ rest) ∙ sym (regroup ja jo jb more rest) in
      let la : length ja ≡ s * w = length_words st.front s st.at in
      let lo : length jo ≡ o * w = length_words (lines_of h.old) o (sym olds) in
      let lm : length (jo ++ (jb ++ more)) ≡ top * w - s * w = simp (length-append, length-replicate) ((λ t. lo t + (length_words st.behind b refl t + (n * w - o * w))) ∙ words_on s o n b top w (omega arith)) in
      let dropped : drop (s * w) lines ≡ (jo ++ (jb ++ more)) ++ rest = ap (drop (s * w)) p ∙ drop_at ja ((jo ++ (jb ++ more)) ++ rest) (s * w) la in
      let taken : take (s * w) lines ≡ ja = ap (take (s * w)) p ∙ take_at ja ((jo ++ (jb ++ more)) ++ rest) (s * w) la in
      let middle : take (top * w - s * w) (drop (s * w) lines) ≡ jo ++ (jb ++ more) = ap (take (top * w - s * w)) dropped ∙ take_at (jo ++ (jb ++ more)) rest (top * w - s * w) lm in
      let end : drop (top * w - s * w) (drop (s * w) lines) ≡ rest = ap (drop (top * w - s * w)) dropped ∙ drop_at (jo ++ (jb ++ more)) rest (top * w - s * w) lm in
      let now : after ≡ jn ++ (jb ++ fewer) = writes ∙ (λ t. jn ++ drop (sym news t * sym width t) cleared) ∙ ap (λ x. jn ++ x) (moves jo jb lo middle) in
      (λ t. taken t ++ (now t ++ end t)) ∙ regroup ja jn jb fewer rest ∙ sym ((λ t. flat_map F.encode (st.becomes t) ++ y t) ∙ joined_three F st.front (lines_of h.new) st.behind (fewer ++ rest))
