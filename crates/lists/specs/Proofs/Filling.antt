-- The words of lists of lines.
use Rattle.std.proofs.Common.{◌≡◌, ℕ, ◌+◌, ◌-◌, ◌*◌, ◌≤◌, List, [], ◌∷◌, ◌++◌, length, take, drop, sym, refl, ap, ◌∙◌, append_assoc, add-mul, one-mul, zero-mul, add-one, arith, length-append}
use Rattle.std.specs.List.{flat_map}
use Rattle.std.proofs.lemmas.List.{length-replicate, take_at, drop_at}
use Rattle.kinds.specs.Laws.{most}
use Rattle.lines.specs.Line.{Form}
use Rattle.lists.specs.Hunk.{filled_up}

-- every line fills its words
abbrev pub Fills : {L : Type 0} → Form L → Type 0
Fills {L} F = (l : L) → length (F.encode l) ≡ F.width

-- every line is read back
abbrev pub Reads : {L : Type 0} → Form L → Type 0
Reads {L} F = (l : L) → F.decode (F.encode l) ≡ l

pub joined_append : {L : Type 0} (F : Form L) (a b : List L) → flat_map F.encode (a ++ b) ≡ flat_map F.encode a ++ flat_map F.encode b
joined_append F [] b = refl
joined_append F (l ∷ a) b = rw (joined_append F a b) (sym (append_assoc (F.encode l) (flat_map F.encode a) (flat_map F.encode b)))

-- the words of three parts of a list, and what stands behind them
pub joined_three : {L : Type 0} (F : Form L) (a m b : List L) (z : List ℕ)
    → flat_map F.encode (a ++ (m ++ b)) ++ z ≡ flat_map F.encode a ++ (flat_map F.encode m ++ (flat_map F.encode b ++ z))
joined_three F a m b z = rw (joined_append F a (m ++ b), joined_append F m b) (simp append_assoc)

module _ {L : Type 0} (F : Form L) (fills : Fills F) where
  pub length_joined : (d : List L) → length (flat_map F.encode d) ≡ length d * F.width
  length_joined [] = sym (zero-mul F.width)
  length_joined (l ∷ d) =
      let e = one-mul F.width in
      let s : (length d + 1) * F.width ≡ length d * F.width + 1 * F.width = add-mul (length d) 1 F.width in
      rw (length-append, fills l, length_joined d, ← add-one) (omega arith)

  pub length_filled_up : (d : List L) → length d ≤ most → length (filled_up F d) ≡ most * F.width
  length_filled_up d h =
      let s : (length d + (most - length d)) * F.width ≡ length d * F.width + (most - length d) * F.width = add-mul (length d) (most - length d) F.width in
      let m : length d + (most - length d) ≡ most = omega arith in
      rw (length-append, length_joined d, length-replicate) (sym s ∙ ap (λ n. n * F.width) m)

  -- different lists of one length have different words
  pub same_lists : Reads F → (d e : List L) (x y : List ℕ) → length d ≡ length e → flat_map F.encode d ++ x ≡ flat_map F.encode e ++ y → d ≡ e
  same_lists reads [] [] x y n h = refl
  same_lists reads [] (m ∷ e) x y n h = absurd (omega arith)
  same_lists reads (l ∷ d) [] x y n h = absurd (omega arith)
  same_lists reads (l ∷ d) (m ∷ e) x y n h =
      let w = F.width in
      let g : F.encode l ++ (flat_map F.encode d ++ x) ≡ F.encode m ++ (flat_map F.encode e ++ y) = sym (append_assoc (F.encode l) (flat_map F.encode d) x) ∙ h ∙ append_assoc (F.encode m) (flat_map F.encode e) y in
      let firsts : F.encode l ≡ F.encode m = sym (take_at (F.encode l) (flat_map F.encode d ++ x) w (fills l)) ∙ ap (take w) g ∙ take_at (F.encode m) (flat_map F.encode e ++ y) w (fills m) in
      let rests : flat_map F.encode d ++ x ≡ flat_map F.encode e ++ y = sym (drop_at (F.encode l) (flat_map F.encode d ++ x) w (fills l)) ∙ ap (drop w) g ∙ drop_at (F.encode m) (flat_map F.encode e ++ y) w (fills m) in
      let a : l ≡ m = sym (reads l) ∙ ap F.decode firsts ∙ reads m in
      let b : d ≡ e = same_lists reads d e x y (omega arith) rests in
      cc
