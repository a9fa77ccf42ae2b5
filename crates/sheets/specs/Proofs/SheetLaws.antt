-- Sheets keep the laws if the kind below does.
use Rattle.std.proofs.Common.{◌≡◌, ℕ, ◌+◌, ◌≤◌, true, false, not, ◌&&◌, eqb, ltb, ◌↔◌, List, ◌∷◌, length, get_or, replicate, Some, None, Option, sym, refl, ap, ◌∙◌, ⊎_elim, one-add, arith}
use Rattle.std.specs.List.{slice_get}
use Rattle.std.proofs.lemmas.List.{length-replicate}
use Rattle.std.proofs.lemmas.Bool.{and_parts, and_from, eq-eqb, ne_eqb, cases_eq, not_from_false, not-true, eqb-false, false≢true}
use Rattle.kinds.specs.Theory.{Theory}
use Rattle.kinds.specs.Laws.{Then, Commutes, Undo, SwapBack, Turning, BackFirst, Lawful, most}
use Rattle.kinds.specs.Slots.{passing}
use Rattle.kinds.proofs.Cases.{some_one}
use Rattle.kinds.proofs.Halves.{undo_from_forward, both_ways, three_from_front}
use Rattle.kinds.proofs.Slots.{step_from, step_reads, step_length, step_size, slot_size, slot_of_all, all_after, Holds, slots_hold}
use Rattle.kinds.proofs.Placed.{one, apart, makes, placed_keeps, makes_bounds, placed_in_turn, placed_each}
use Rattle.sheets.specs.declared.Sheet.{Sheet}
use Rattle.sheets.specs.declared.SheetChange.TheVariants.{the_data as SheetChange, Create, Remove, Move, Inside}
use Rattle.sheets.specs.declared.SheetFault.TheVariants.{the_data as SheetFault}
use Rattle.sheets.specs.Sheets.{same_sheet, sheet_invert, sheet_growth, sheet_far, sheet_size, sheet_fits, sheet_encode, absent, sheets}
use Rattle.sheets.specs.Proofs.Places.{stays, moved}
use Rattle.sheets.specs.Proofs.Passing.{Change, coded, read, coded_read, inverted, coded_inverted, Passes, ops, over, under, slots, passes, commutes, passes_back, passes_turn, passes_three}
use Rattle.sheets.specs.Proofs.Doing.{Sheets, Does, creates, removes, moves, changes, does, takes, does_back, does_forward}

module _ {P F : Type 0} (T : Theory P F) (l : Lawful T) where
  abbrev S : Theory (SheetChange P) (SheetFault F)
  S = sheets T

  undoing : Undo S
  undoing = undo_from_forward S (λ c d e h. takes T l (sheet_invert T c) e d (at_inverse c (does_back T l (does T l c d e h)))) twice
    where
      at_inverse : (c : SheetChange P) {d e : Sheets T} → Does T (inverted T (read c)) d e → Does T (read (sheet_invert T c)) d e
      at_inverse (Create a) h = h
      at_inverse (Remove a) h = h
      at_inverse (Move a b) h = h
      at_inverse (Inside a p) h = h

      twice : (c : SheetChange P) → sheet_invert T (sheet_invert T c) ≡ c
      twice (Create a) = refl
      twice (Remove a) = refl
      twice (Move a b) = refl
      twice (Inside a p) = ap (Inside a) (l.undo.twice p)

  backing : SwapBack S
  backing c d d' c' h = commutes T (coded_read d') (coded_read c') (coded_read c) (coded_read d) (passes_back T l (passes T c d d' c' h))

  turning : Turning S
  turning c d d' c' h = commutes T (coded_inverted T c) (coded_read d') (coded_read d) (coded_inverted T c') (passes_turn T l (passes T c d d' c' h))

  forward : (c d d' c' : SheetChange P) → Commutes S c d d' c' → (x z : Sheets T) → Then S c d x z → Then S d' c' x z
  forward c d d' c' h x z (y, i, j) =
      let (b, s, t) = does_forward T l (passes T c d d' c' h) (does T l c x y i) (does T l d y z j) in
      (b, takes T l d' x b s, takes T l c' b z t)

  front : (p q r r2 q2 p2 q1 p1 r1 : SheetChange P) → Commutes S p q q1 p1 → Commutes S p1 r r1 p2 → Commutes S q1 r1 r2 q2 → BackFirst S p q r r2 q2 p2
  front p q r r2 q2 p2 q1 p1 r1 h i j =
      let (s, b, a, x, y, z) = passes_three T l (passes T p q q1 p1 h) (passes T p1 r r1 p2 i) (passes T q1 r1 r2 q2 j) in (
        coded s,
        coded b,
        coded a,
        commutes T (coded_read q) (coded_read r) refl refl x,
        commutes T (coded_read p) refl (coded_read r2) refl y,
        commutes T refl refl (coded_read q2) (coded_read p2) z,
      )

  keeps : {c d d' c' : Change P} → Passes T c d d' c'
      → (sheet_growth T (coded d') ≡ sheet_growth T (coded d)) × (sheet_growth T (coded c') ≡ sheet_growth T (coded c))
  keeps (ops n) = (refl, refl)
  keeps (over h) = (refl, refl)
  keeps (under h) = (refl, refl)
  keeps (slots h) = placed_keeps T l h

  bounds : (c : SheetChange P) (d e : Sheets T) → Does T (read c) d e → S.size e ≤ S.size d + S.growth c
  bounds (Create a) d e (creates s) = omega (arith, step_size (sheet_size T) s, l.held_in_words.starts.1)
  bounds (Remove a) d e (removes s) = omega (arith, step_size (sheet_size T) s)
  bounds (Move a b) d e (moves ne s t) = omega (arith, step_size (sheet_size T) s, step_size (sheet_size T) t)
  bounds (Inside a p) d e (changes h) = makes_bounds T l Some some_one (sheet_size T) (λ _. refl) h

  -- too far only inside one sheet
  near : (a b : Sheet) (p q : P) → (a.0 ≡ b.0 → T.far p q ≡ false) → sheet_far T (Inside a p) (Inside b q) ≡ false
  near a b p q f = ⊎_elim (λ e. rw (eq-eqb a.0 b.0 e) (f e)) (λ ne. rw (ne_eqb a.0 b.0 ne)) (cases_eq a.0 b.0)

  in_turn : (c d : SheetChange P) (x y z : Sheets T) → Does T (read c) x y → Does T (read d) y z → S.size x + S.growth c + S.growth d ≤ most → S.far c d ≡ false
  in_turn (Create a) d x y z h i k = refl
  in_turn (Remove a) d x y z h i k = refl
  in_turn (Move a b) d x y z h i k = refl
  in_turn (Inside a p) (Create b) x y z h i k = refl
  in_turn (Inside a p) (Remove b) x y z h i k = refl
  in_turn (Inside a p) (Move b c) x y z h i k = refl
  in_turn (Inside a p) (Inside b q) x y z (changes h) (changes i) k =
      near a b p q (λ e. placed_in_turn T l Some some_one (sheet_size T) (λ _. refl) e h i k)

  each : (c d : SheetChange P) (x y z : Sheets T) → Does T (read c) x y → Does T (read d) x z → S.size x + S.growth c + S.growth d ≤ most → S.far (S.invert c) d ≡ false
  each (Create a) d x y z h i k = refl
  each (Remove a) d x y z h i k = refl
  each (Move a b) d x y z h i k = refl
  each (Inside a p) (Create b) x y z h i k = refl
  each (Inside a p) (Remove b) x y z h i k = refl
  each (Inside a p) (Move b c) x y z h i k = refl
  each (Inside a p) (Inside b q) x y z (changes h) (changes i) k =
      near a b (T.invert p) q (λ e. placed_each T l Some some_one (sheet_size T) (λ _. refl) e h i k)

  inverse_written : (c : SheetChange P) → S.written c ≡ true → S.written (S.invert c) ≡ true
  inverse_written (Create a) w = w
  inverse_written (Remove a) w = w
  inverse_written (Move a b) w =
      let (i, r) = and_parts (ltb a.0 4) (ltb b.0 4 && not (same_sheet a b)) w in
      let (j, n) = and_parts (ltb b.0 4) (not (same_sheet a b)) r in
      and_from _ _ j (and_from _ _ i (not_from_false _ (ne_eqb _ _ (λ e. eqb-false _ _ (not-true _ n) (sym e)))))
  inverse_written (Inside a p) w =
      let (i, r) = and_parts (ltb a.0 4) (T.written p) w in and_from _ _ i (l.stays_written.inverted p r)

  commuted : {c d d' c' : Change P} → Passes T c d d' c' → S.far (coded c) (coded d) ≡ false → S.written (coded c) ≡ true → S.written (coded d) ≡ true
      → (S.written (coded d') ≡ true) × (S.written (coded c') ≡ true)
  commuted (ops n) f v w = (w, v)
  commuted (over (stays h)) f v w = (w, v)
  commuted (over {p = p} (moved {a} {b})) f v w = (and_from _ _ (and_parts (ltb a 4) (ltb b 4 && not (eqb a b)) v).0 (and_parts (ltb b 4) (T.written p) w).1, v)
  commuted (under (stays h)) f v w = (w, v)
  commuted (under {p = p} (moved {a} {b})) f v w =
      (w, and_from _ _ (and_parts (ltb b 4) (not (eqb a b)) (and_parts (ltb a 4) (ltb b 4 && not (eqb a b)) w).1).0 (and_parts (ltb a 4) (T.written p) v).1)
  commuted (slots {m} {n} {p} {q} (one e h)) f v w =
      let (a, b) = and_parts (ltb m 4) (T.written p) v in
      let (i, j) = and_parts (ltb n 4) (T.written q) w in
      let (s, t) = l.stays_written.commuted _ _ _ _ h (rw (eq-eqb m n e) at f) b j in
      (and_from _ _ i s, and_from _ _ a t)
  commuted (slots (apart ne)) f v w = (w, v)

  still_fits : (c : SheetChange P) (d e : Sheets T) → Does T (read c) d e → S.written c ≡ true → S.fits d → S.full c d ≡ false → S.fits e
  still_fits (Create a) d e (creates s) w f k = (step_length s ∙ f.0, all_after (sheet_fits T) s l.held_in_words.starts.0 f.1)
  still_fits (Remove a) d e (removes s) w f k = (step_length s ∙ f.0, all_after (sheet_fits T) s tt f.1)
  still_fits (Move a b) d e (moves ne s t) w f k =
      (step_length t ∙ step_length s ∙ f.0, all_after (sheet_fits T) t (slot_of_all (sheet_fits T) s f.1) (all_after (sheet_fits T) s tt f.1))
  still_fits (Inside a p) d e (changes (makes x y t s)) w f k = (
    step_length s ∙ f.0,
    all_after (sheet_fits T) s (l.held_in_words.stays p x y (and_parts (ltb a.0 4) (T.written p) w).1
        (slot_of_all (sheet_fits T) s f.1) (sym (ap (passing (passing (T.full p))) (step_reads s)) ∙ k) t) f.1,
  )

  room : (c : SheetChange P) (d : Sheets T) → S.size d + S.growth c ≤ most → S.full c d ≡ false
  room (Create a) d k = refl
  room (Remove a) d k = refl
  room (Move a b) d k = refl
  room (Inside a p) d k = at (slice_get d a.0) refl
    where
      at : (o : Option (Option T.Doc)) → slice_get d a.0 ≡ o → passing (passing (T.full p)) (slice_get d a.0) ≡ false
      at None e = rw e
      at (Some None) e = rw e
      at (Some (Some x)) e = rw e (l.held_in_words.room p x (omega (arith, slot_size (sheet_size T) (step_from (Some x) (Some x) a.0 d e))))

  -- what one sheet holds
  pub sheet_holds : Holds None (absent T) (sheet_size T) (sheet_fits T) (1 + T.width) (sheet_encode T)
  sheet_holds = record { starts = (tt, refl, refl); tells_fresh = tells; filled = filled; apart = told_apart }
    where
      tells : (x : Option T.Doc) → (absent T x ≡ true) ↔ (x ≡ None)
      tells None = (λ _. refl, λ _. refl)
      tells (Some x) = (λ e. absurd (false≢true e), ap (absent T))

      filled : (x : Option T.Doc) → sheet_fits T x → length (sheet_encode T x) ≡ 1 + T.width
      filled None f = length-replicate (1 + T.width) 0
      filled (Some x) f = omega (arith, l.held_in_words.filled x f)

      flag : (v : List ℕ) → replicate (1 + T.width) 0 ≡ 1 ∷ v → ⊥
      flag v e = let h : ◌≡◌ {A = ℕ} 0 1 = ap (λ u. get_or u 0 0) (rw (one-add T.width) at e) in omega arith

      told_apart : (x y : Option T.Doc) → sheet_fits T x → sheet_fits T y → sheet_encode T x ≡ sheet_encode T y → x ≡ y
      told_apart None None f g e = refl
      told_apart None (Some y) f g e = absurd (flag (T.encode y) e)
      told_apart (Some x) None f g e = absurd (flag (T.encode x) (sym e))
      told_apart (Some x) (Some y) f g e = ap Some (l.held_in_words.apart x y f g (let h : T.encode x ≡ T.encode y = cc in h))

  pub sheets_lawful : Lawful S
  sheets_lawful = record {
    undo = undoing;
    swap_back = backing;
    same_effect = both_ways S backing forward;
    turning = turning;
    three = three_from_front S undoing backing turning (λ p q r r2 q2 p2 t. front p q r r2 q2 p2 t.0 t.1 t.2 t.3 t.4 t.5);
    grows = record {
      keeps = λ p q q' p' h. rw (coded_read p, coded_read q, coded_read q', coded_read p') at (keeps (passes T p q q' p' h));
      bounds = λ p d e h. bounds p d e (does T l p d e h);
    };
    reach = record {
      in_turn = λ p q d e t. in_turn p q d t.0 e (does T l p d t.0 t.1) (does T l q t.0 e t.2);
      each = λ p q d m e a b. each p q d m e (does T l p d m a) (does T l q d e b);
    };
    stays_written = record {
      inverted = inverse_written;
      commuted = λ p q q' p' h. rw (coded_read p, coded_read q, coded_read q', coded_read p') at (commuted (passes T p q q' p' h));
    };
    held_in_words = record {
      starts = (slots_hold sheet_holds 4).starts;
      tells_fresh = (slots_hold sheet_holds 4).tells_fresh;
      stays = λ p d e w f k h. still_fits p d e (does T l p d e h) w f k;
      room = room;
      filled = (slots_hold sheet_holds 4).filled;
      apart = (slots_hold sheet_holds 4).apart;
    };
  }
