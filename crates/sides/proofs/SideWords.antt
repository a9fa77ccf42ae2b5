-- One side's words are lent: what that says of the whole document.
use Rattle.std.proofs.Common.{◌≡◌, ℕ, ◌-◌, true, List, [], ◌++◌, length, Result, sym, refl, ap, ◌∙◌, subst, arith}
use native.Mathlib.Nat.{min-eq_left}
use borrow.Rule.Slice.PartMut.{put_mid}
use Rattle.std.specs.List.{between}
use Rattle.std.proofs.lemmas.List.{append-nil}
use Rattle.std.proofs.lemmas.List.Edits.{length-between}
use Rattle.kinds.specs.declared.answers.Failure.{Failure}
use Rattle.kinds.specs.Theory.{Theory}
use Rattle.kinds.specs.Bounded.{roomy, Applied, saturated}
use Rattle.kinds.specs.Laws.{Lawful}
use Rattle.kinds.specs.Parts.{failing}
use Rattle.kinds.specs.Slots.{Around}
use Rattle.kinds.proofs.Lending.{OnPart, room_width, part_applied, put_around}
use Rattle.sides.specs.declared.Side.TheVariants.{the_data as Side, Left, Right}
use Rattle.sides.specs.Sides.{sides, side_start, side_width}

module _ {P Q F G : Type 0} (L : Theory P F) (R : Theory Q G) (l : Lawful L) (r : Lawful R) (was : List ℕ) (room : roomy (sides L R) (length was) ≡ true) where
  on_left : (p : P) (d : (sides L R).Doc) → (sides L R).fits d → OnPart (sides L R) L (Left p) p d Left 0
  on_left p d f = record {
    inner = d.0;
    put = λ e. (e, d.1);
    before = [];
    behind = R.encode d.1;
    starts = refl;
    inner_fits = f.0;
    words = refl;
    put_fits = λ e g. (g, f.1);
    put_words = λ e g. refl;
    full_is = refl;
    apply_is = refl;
  }

  on_right : (q : Q) (d : (sides L R).Doc) → (sides L R).fits d → OnPart (sides L R) R (Right q) q d Right L.width
  on_right q d f = record {
    inner = d.1;
    put = λ e. (d.0, e);
    before = L.encode d.0;
    behind = [];
    starts = l.held_in_words.filled d.0 f.0;
    inner_fits = f.1;
    words = ap (λ w. L.encode d.0 ++ w) (sym (append-nil (R.encode d.1)));
    put_fits = λ e g. (f.0, g);
    put_words = λ e g. ap (λ w. L.encode d.0 ++ w) (sym (append-nil (R.encode e)));
    full_is = refl;
    apply_is = refl;
  }

  -- the left side's number of words is told as it is
  middle : (k : ℕ) → k ≡ saturated L.width → k ≡ L.width
  middle k e = let w = room_width (sides L R) (length was) room in e ∙ min-eq_left (omega arith)

  -- all words but those of the side stay
  pub left_others : (q : Side P Q) (p : P) (mid : List ℕ) (k : ℕ) → q ≡ Left p → k ≡ saturated L.width → length mid ≡ length (between 0 k was)
      → Around (side_start L R q) (side_width L R q) was (put_mid 0 (k - 0) was mid)
  left_others q p mid k is e n =
      let w = room_width (sides L R) (length was) room in
      let m : k - 0 ≡ L.width = omega (arith, middle k e) in
      rw (is, m) (put_around was mid 0 L.width (omega arith) (omega (arith, n, middle k e, length-between was 0 k (omega (arith, middle k e)))))

  pub right_others : (q : Side P Q) (p : Q) (mid : List ℕ) (k : ℕ) → q ≡ Right p → k ≡ saturated L.width → length mid ≡ length (between k (length was) was)
      → Around (side_start L R q) (side_width L R q) was (put_mid k (length was - k) was mid)
  right_others q p mid k is e n =
      let w = room_width (sides L R) (length was) room in
      let a : k ≡ L.width = middle k e in
      let m : length was - k ≡ R.width = omega arith in
      rw (is, m, a) (put_around was mid L.width R.width (omega arith) (omega (arith, n, length-between was k (length was) (omega arith))))

  pub left_applied : (q : Side P Q) (p : P) (s : Result (Unit {0}) (Failure F)) (t : Result (Unit {0}) (Failure (Side F G))) (mid : List ℕ) (k : ℕ)
      → q ≡ Left p → k ≡ saturated L.width → Applied L p (between 0 k was) s mid → t ≡ failing Left s → Applied (sides L R) q was t (put_mid 0 (k - 0) was mid)
  left_applied q p s t mid k is e h j =
      let w = room_width (sides L R) (length was) room in
      let m = middle k e in
      rw (is, j) (part_applied (sides L R) L l.held_in_words.filled (Left p) p Left 0 k was room (omega arith) (omega arith) (λ d f _. on_left p d f) s mid h)

  pub right_applied : (q : Side P Q) (p : Q) (s : Result (Unit {0}) (Failure G)) (t : Result (Unit {0}) (Failure (Side F G))) (mid : List ℕ) (k : ℕ)
      → q ≡ Right p → k ≡ saturated L.width → Applied R p (between k (length was) was) s mid → t ≡ failing Right s
      → Applied (sides L R) q was t (put_mid k (length was - k) was mid)
  right_applied q p s t mid k is e h j =
      let w = room_width (sides L R) (length was) room in
      let m = middle k e in
      rw (is, j) (part_applied (sides L R) R r.held_in_words.filled (Right p) p Right k (length was) was room (omega arith) (omega arith)
      (λ d f _. subst (λ (a : ℕ). OnPart (sides L R) R (Right p) p d Right a) (sym m) (on_right p d f)) s mid h)
