-- Sides keep the laws if both kinds do.
use Rattle.std.proofs.Common.{◌≡◌, ◌+◌, ◌≤◌, true, false, ◌++◌, length, replicate, sym, refl, ap, ◌∙◌, subst, arith, length-append}
use lib.ListN.{replicate-append-replicate}
use Rattle.std.proofs.lemmas.Bool.{and_parts, and_from}
use Rattle.kinds.specs.Theory.{Theory}
use Rattle.kinds.specs.Laws.{Takes, Then, Commutes, Undo, SwapBack, Turning, BackFirst, Lawful}
use Rattle.kinds.specs.Parts.{both, part}
use Rattle.kinds.proofs.Joins.{append_apart}
use Rattle.kinds.proofs.Parts.{pair_of, both_some, part_ok}
use Rattle.kinds.proofs.Halves.{undo_from_forward, both_ways, three_from_front}
use Rattle.sides.specs.declared.Side.TheVariants.{the_data as Side, Left, Right}
use Rattle.sides.specs.Sides.{side_invert, sides}

module _ {P Q F G : Type 0} (L : Theory P F) (R : Theory Q G) (l : Lawful L) (r : Lawful R) where
  abbrev S : Theory (Side P Q) (Side F G)
  S = sides L R

  -- commuting, case by case
  data Passes : Side P Q → Side P Q → Side P Q → Side P Q → Type 0 where
    lefts : {p q q' p' : P} → Commutes L p q q' p' → Passes (Left p) (Left q) (Left q') (Left p')
    rights : {p q q' p' : Q} → Commutes R p q q' p' → Passes (Right p) (Right q) (Right q') (Right p')
    left_right : {p : P} {q : Q} → Passes (Left p) (Right q) (Right q) (Left p)
    right_left : {p : Q} {q : P} → Passes (Right p) (Left q) (Left q) (Right p)

  passes : (p q q' p' : Side P Q) → Commutes S p q q' p' → Passes p q q' p'
  passes (Left p) (Left q) q' p' h =
      let s = both_some Left Left (L.commute p q) q' p' h in
      subst (λ (z : Side P Q). Passes (Left p) (Left q) z p') s.2 (subst (λ (z : Side P Q). Passes (Left p) (Left q) (Left s.0.0) z) s.3 (lefts s.1))
  passes (Right p) (Right q) q' p' h =
      let s = both_some Right Right (R.commute p q) q' p' h in
      subst (λ (z : Side P Q). Passes (Right p) (Right q) z p') s.2 (subst (λ (z : Side P Q). Passes (Right p) (Right q) (Right s.0.0) z) s.3 (rights s.1))
  passes (Left p) (Right q) q' p' h =
      let s = pair_of h in
      subst (λ (z : Side P Q). Passes (Left p) (Right q) z p') s.0 (subst (λ (z : Side P Q). Passes (Left p) (Right q) (Right q) z) s.1 left_right)
  passes (Right p) (Left q) q' p' h =
      let s = pair_of h in
      subst (λ (z : Side P Q). Passes (Right p) (Left q) z p') s.0 (subst (λ (z : Side P Q). Passes (Right p) (Left q) (Left q) z) s.1 right_left)

  commutes : {p q q' p' : Side P Q} → Passes p q q' p' → Commutes S p q q' p'
  commutes (lefts h) = ap (both Left Left) h
  commutes (rights h) = ap (both Right Right) h
  commutes left_right = refl
  commutes right_left = refl

  -- applying, case by case
  data Makes : Side P Q → S.Doc → S.Doc → Type 0 where
    on_left : {p : P} {a b : L.Doc} {x : R.Doc} → Takes L p a b → Makes (Left p) (a, x) (b, x)
    on_right : {q : Q} {a b : R.Doc} {x : L.Doc} → Takes R q a b → Makes (Right q) (x, a) (x, b)

  makes : (p : Side P Q) (d e : S.Doc) → Takes S p d e → Makes p d e
  makes (Left p) d e h = let s = part_ok (λ x. (x, d.1)) Left (L.apply p d.0) e h in subst (λ (z : S.Doc). Makes (Left p) d z) s.2 (on_left s.1)
  makes (Right q) d e h = let s = part_ok (λ x. (d.0, x)) Right (R.apply q d.1) e h in subst (λ (z : S.Doc). Makes (Right q) d z) s.2 (on_right s.1)

  takes : {p : Side P Q} {d e : S.Doc} → Makes p d e → Takes S p d e
  takes (on_left {x = x} h) = ap (part (λ e. (e, x)) Left) h
  takes (on_right {x = x} h) = ap (part (λ e. (x, e)) Right) h

  undone : {p : Side P Q} {d e : S.Doc} → Makes p d e → Makes (side_invert L R p) e d
  undone (on_left h) = on_left ((l.undo.takes_back _ _ _).0 h)
  undone (on_right h) = on_right ((r.undo.takes_back _ _ _).0 h)

  twice : (p : Side P Q) → side_invert L R (side_invert L R p) ≡ p
  twice (Left p) = ap Left (l.undo.twice p)
  twice (Right q) = ap Right (r.undo.twice q)

  back : {p q q' p' : Side P Q} → Passes p q q' p' → Passes q' p' p q
  back (lefts h) = lefts (l.swap_back _ _ _ _ h)
  back (rights h) = rights (r.swap_back _ _ _ _ h)
  back left_right = right_left
  back right_left = left_right

  forward : {p q q' p' : Side P Q} {d m e : S.Doc} → Passes p q q' p' → Makes p d m → Makes q m e → Then S q' p' d e
  forward (lefts h) (on_left a) (on_left b) = let s = (l.same_effect _ _ _ _ h _ _).0 (_, a, b) in (_, takes (on_left s.1), takes (on_left s.2))
  forward (rights h) (on_right a) (on_right b) = let s = (r.same_effect _ _ _ _ h _ _).0 (_, a, b) in (_, takes (on_right s.1), takes (on_right s.2))
  forward left_right (on_left a) (on_right b) = (_, takes (on_right b), takes (on_left a))
  forward right_left (on_right a) (on_left b) = (_, takes (on_left b), takes (on_right a))

  turned : {p q q' p' : Side P Q} → Passes p q q' p' → Passes (side_invert L R p) q' q (side_invert L R p')
  turned (lefts h) = lefts (l.turning _ _ _ _ h)
  turned (rights h) = rights (r.turning _ _ _ _ h)
  turned left_right = left_right
  turned right_left = right_left

  -- three patches: three of one side commute as below, and one of the other side is in nobody's way
  front : {p q q1 p1 r r1 p2 r2 q2 : Side P Q} → Passes p q q1 p1 → Passes p1 r r1 p2 → Passes q1 r1 r2 q2 → BackFirst S p q r r2 q2 p2
  front (lefts a) (lefts b) (lefts c) =
      let s = (l.three _ _ _ _ _ _).0 (_, _, _, a, b, c) in (_, _, _, commutes (lefts s.3), commutes (lefts s.4), commutes (lefts s.5))
  front (rights a) (rights b) (rights c) =
      let s = (r.three _ _ _ _ _ _).0 (_, _, _, a, b, c) in (_, _, _, commutes (rights s.3), commutes (rights s.4), commutes (rights s.5))
  front (lefts a) left_right left_right = (_, _, _, refl, refl, commutes (lefts a))
  front (rights a) right_left right_left = (_, _, _, refl, refl, commutes (rights a))
  front left_right (lefts b) right_left = (_, _, _, refl, commutes (lefts b), refl)
  front right_left (rights b) left_right = (_, _, _, refl, commutes (rights b), refl)
  front left_right left_right (rights c) = (_, _, _, commutes (rights c), refl, refl)
  front right_left right_left (lefts c) = (_, _, _, commutes (lefts c), refl, refl)

  keeps : {p q q' p' : Side P Q} → Passes p q q' p' → (S.growth q' ≡ S.growth q) × (S.growth p' ≡ S.growth p)
  keeps (lefts h) = l.grows.keeps _ _ _ _ h
  keeps (rights h) = r.grows.keeps _ _ _ _ h
  keeps left_right = (refl, refl)
  keeps right_left = (refl, refl)

  bounds : {p : Side P Q} {d e : S.Doc} → Makes p d e → S.size e ≤ S.size d + S.growth p
  bounds (on_left h) = let k = l.grows.bounds _ _ _ h in omega arith
  bounds (on_right h) = let k = r.grows.bounds _ _ _ h in omega arith

  in_turn : {p q : Side P Q} {d m e : S.Doc} → Makes p d m → Makes q m e → S.size d + S.growth p + S.growth q ≤ 120 → S.far p q ≡ false
  in_turn (on_left a) (on_left b) k = l.reach.in_turn _ _ _ _ (_, a, b) (omega arith)
  in_turn (on_right a) (on_right b) k = r.reach.in_turn _ _ _ _ (_, a, b) (omega arith)
  in_turn (on_left a) (on_right b) k = refl
  in_turn (on_right a) (on_left b) k = refl

  each : {p q : Side P Q} {d m e : S.Doc} → Makes p d m → Makes q d e → S.size d + S.growth p + S.growth q ≤ 120 → S.far (S.invert p) q ≡ false
  each (on_left a) (on_left b) k = l.reach.each _ _ _ _ _ a b (omega arith)
  each (on_right a) (on_right b) k = r.reach.each _ _ _ _ _ a b (omega arith)
  each (on_left a) (on_right b) k = refl
  each (on_right a) (on_left b) k = refl

  inverted : (p : Side P Q) → S.written p ≡ true → S.written (S.invert p) ≡ true
  inverted (Left p) = l.stays_written.inverted p
  inverted (Right q) = r.stays_written.inverted q

  commuted : {p q q' p' : Side P Q} → Passes p q q' p' → S.far p q ≡ false → S.written p ≡ true → S.written q ≡ true → (S.written q' ≡ true) × (S.written p' ≡ true)
  commuted (lefts h) f v w = l.stays_written.commuted _ _ _ _ h f v w
  commuted (rights h) f v w = r.stays_written.commuted _ _ _ _ h f v w
  commuted left_right f v w = (w, v)
  commuted right_left f v w = (w, v)

  stays : {p : Side P Q} {d e : S.Doc} → Makes p d e → S.written p ≡ true → S.fits d → S.full p d ≡ false → S.fits e
  stays (on_left h) w f k = (l.held_in_words.stays _ _ _ w f.0 k h, f.1)
  stays (on_right h) w f k = (f.0, r.held_in_words.stays _ _ _ w f.1 k h)

  room : (p : Side P Q) (d : S.Doc) → S.size d + S.growth p ≤ 120 → S.full p d ≡ false
  room (Left p) d k = l.held_in_words.room p d.0 (omega arith)
  room (Right q) d k = r.held_in_words.room q d.1 (omega arith)

  tells_fresh : (d : S.Doc) → S.blank d ≡ true → d ≡ S.fresh
  tells_fresh d h =
      let s = and_parts (L.blank d.0) (R.blank d.1) h in
      let a = (l.held_in_words.tells_fresh d.0).0 s.0 in
      let b = (r.held_in_words.tells_fresh d.1).0 s.1 in
      λ i. (a i, b i)

  blank_fresh : S.blank S.fresh ≡ true
  blank_fresh = and_from _ _ ((l.held_in_words.tells_fresh L.fresh).1 refl) ((r.held_in_words.tells_fresh R.fresh).1 refl)

  apart : (d e : S.Doc) → S.fits d → S.fits e → S.encode d ≡ S.encode e → d ≡ e
  apart d e f g h =
      let s = append_apart (L.encode d.0) (R.encode d.1) (L.encode e.0) (R.encode e.1)
      (l.held_in_words.filled d.0 f.0 ∙ sym (l.held_in_words.filled e.0 g.0)) h in
      let a = l.held_in_words.apart d.0 e.0 f.0 g.0 s.0 in
      let b = r.held_in_words.apart d.1 e.1 f.1 g.1 s.1 in
      λ i. (a i, b i)

  zeros : S.encode S.fresh ≡ replicate S.width 0
  zeros = ap (λ w. w ++ R.encode R.fresh) l.held_in_words.starts.2 ∙ ap (λ w. replicate L.width 0 ++ w) r.held_in_words.starts.2
      ∙ replicate-append-replicate L.width R.width 0

  pub sides_lawful : Lawful S
  sides_lawful = record {
    undo = undoing;
    swap_back = backing;
    same_effect = both_ways S backing (λ p q q' p' h d e t. forward (passes p q q' p' h) (makes p d t.0 t.1) (makes q t.0 e t.2));
    turning = turning;
    three = three_from_front S undoing backing turning (λ p q r r2 q2 p2 t. front (passes p q t.0 t.1 t.3) (passes t.1 r t.2 p2 t.4) (passes t.0 t.2 r2 q2 t.5));
    grows = record { keeps = λ p q q' p' h. keeps (passes p q q' p' h); bounds = λ p d e h. bounds (makes p d e h) };
    reach = record {
      in_turn = λ p q d e t. in_turn (makes p d t.0 t.1) (makes q t.0 e t.2);
      each = λ p q d m e a b. each (makes p d m a) (makes q d e b);
    };
    stays_written = record { inverted = inverted; commuted = λ p q q' p' h. commuted (passes p q q' p' h) };
    held_in_words = record {
      starts = ((l.held_in_words.starts.0, r.held_in_words.starts.0), omega (arith, l.held_in_words.starts.1, r.held_in_words.starts.1), zeros);
      tells_fresh = λ d. (tells_fresh d, λ e. ap S.blank e ∙ blank_fresh);
      stays = λ p d e w f k h. stays (makes p d e h) w f k;
      room = room;
      filled = λ d f. simp length-append (ap (λ n. n + length (R.encode d.1)) (l.held_in_words.filled d.0 f.0) ∙ ap (λ n. L.width + n) (r.held_in_words.filled d.1 f.1));
      apart = apart;
    };
  }
    where
      undoing : Undo S
      undoing = undo_from_forward S (λ p d e h. takes (undone (makes p d e h))) twice

      backing : SwapBack S
      backing p q q' p' h = commutes (back (passes p q q' p' h))

      turning : Turning S
      turning p q q' p' h = commutes (turned (passes p q q' p' h))
