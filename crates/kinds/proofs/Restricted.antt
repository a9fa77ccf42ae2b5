-- A kind whose patches are some of the patches of a kind that keeps the laws keeps the laws.
use Rattle.std.proofs.Common.{◌≡◌, Bool, true, false, cond, Some, None, Ok, Err, Option, Result, sym, ap, ◌∙◌}
use Rattle.std.proofs.lemmas.Bool.{and_parts, and_from}
use Rattle.kinds.specs.declared.answers.Clash.{Clash}
use Rattle.kinds.specs.declared.answers.Clash.TheVariants.{TooFar}
use Rattle.kinds.specs.Theory.{Theory}
use Rattle.kinds.specs.Bounded.{done_or_refused, answer}
use Rattle.kinds.specs.Laws.{Commutes, Undo, SwapBack, Turning, FrontFirst, BackFirst, Lawful}
use Rattle.kinds.specs.Parts.{part}
use Rattle.kinds.specs.Sequences.{◌>>=◌}
use Rattle.kinds.specs.Restricted.{both_read, restricted}
use Rattle.kinds.proofs.Halves.{three_from_front}
use Rattle.kinds.proofs.Parts.{pair_of}
use Rattle.kinds.proofs.Sequences.{some_then}

module _ {X Y F : Type 0} (T : Theory Y F) (shown : X → Y) (read : Y → Option X) (within : X → Bool) where
  abbrev R : Theory X F
  R = restricted T shown read within

  open R use {invert}

  -- X is a part of Y, and to invert and to commute stays in it
  pub record Part : Type 0 where
    pub read_shown : (x : X) → read (shown x) ≡ Some x
    pub inverts_in : (x : X) → shown (invert x) ≡ T.invert (shown x)
    pub commutes_in : (p q : X) (b a : Y) → Commutes T (shown p) (shown q) b a → (q' : X) × (p' : X) × (shown q' ≡ b) × (shown p' ≡ a)
    pub within_inverted : (x : X) → within x ≡ true → within (invert x) ≡ true
    pub within_commuted : (p q q' p' : X) → Commutes T (shown p) (shown q) (shown q') (shown p') → within p ≡ true → within q ≡ true → (within q' ≡ true) × (within p' ≡ true)

  module _ (S : Part) where
    one_of : (x y : X) → shown x ≡ shown y → x ≡ y
    one_of x y e = let a = S.read_shown x in let b = S.read_shown y in let c = ap read e in cc

    of_both : (q p : X) → both_read read (shown q, shown p) ≡ Some (q, p)
    of_both q p = rw (S.read_shown q, S.read_shown p)

    up : (p q q' p' : X) → Commutes T (shown p) (shown q) (shown q') (shown p') → Commutes R p q q' p'
    up p q q' p' h = rw h (of_both q' p')

    -- what commuting in Y gives, in X
    in_part : (p q : X) (b a : Y) → Commutes T (shown p) (shown q) b a → (q' : X) × (p' : X) × (shown q' ≡ b) × (shown p' ≡ a) × Commutes R p q q' p'
    in_part p q b a h = let (q', p', k, l) = S.commutes_in p q b a h in (q', p', k, l, up p q q' p' (rw (k, l) h))

    down : (p q q' p' : X) → Commutes R p q q' p' → Commutes T (shown p) (shown q) (shown q') (shown p')
    down p q q' p' h =
        let (r, c, _) = some_then (T.commute (shown p) (shown q)) (both_read read) (q', p') h in
        let (_, _, k, l, i) = in_part p q r.0 r.1 c in
        let (x, y) = pair_of (sym i ∙ h) in
        c ∙ λ i. Some ((sym k ∙ ap shown x) i, (sym l ∙ ap shown y) i)

    -- The code's answer, from its answer in Y: for a kind that is made by reading another one's patches. Nothing cites it yet.
    pub restricted_answer : (p q : X) (r : Result (X × X) Clash) → part (λ (b, a). (shown b, shown a)) (λ c. c) r ≡ answer T (shown p) (shown q) → r ≡ answer R p q
    restricted_answer p q r = by_cases (T.far (shown p) (shown q)) (T.commute (shown p) (shown q)) r
      where
        by_cases : (b : Bool) (o : Option (Y × Y)) (r : Result (X × X) Clash) → part (λ (b, a). (shown b, shown a)) (λ c. c) r ≡ cond b (Err TooFar) (done_or_refused o)
            → r ≡ cond b (Err TooFar) (done_or_refused (o >>= both_read read))
        by_cases true o (Ok z) e = cc
        by_cases true o (Err c) e = cc
        by_cases false None (Ok z) e = cc
        by_cases false None (Err c) e = cc
        by_cases false (Some y) (Ok z) e = let k : ◌≡◌ {A = Y × Y} (shown z.0, shown z.1) y = cc in rw (← k, of_both z.0 z.1)
        by_cases false (Some y) (Err c) e = cc

    module _ (L : Lawful T) where
      undo : Undo R
      undo = record {
        takes_back = λ p d e. rw (S.inverts_in p) (L.undo.takes_back (shown p) d e);
        twice = λ p. one_of _ _ (S.inverts_in (invert p) ∙ ap T.invert (S.inverts_in p) ∙ L.undo.twice (shown p));
      }

      back : SwapBack R
      back p q q' p' h = up q' p' p q (L.swap_back _ _ _ _ (down p q q' p' h))

      turn : Turning R
      turn p q q' p' h = up (invert p) q' q (invert p') (rw (S.inverts_in p, S.inverts_in p') (L.turning _ _ _ _ (down p q q' p' h)))

      front : (p q r r2 q2 p2 : X) → FrontFirst R p q r r2 q2 p2 → BackFirst R p q r r2 q2 p2
      front p q r r2 q2 p2 (q1, p1, r1, h, k, l) =
          let (_, _, m, x, y, z) = (L.three _ _ _ _ _ _).0 (shown q1, shown p1, shown r1, down p q q1 p1 h, down p1 r r1 p2 k, down q1 r1 r2 q2 l) in
          let (s, t, e, f, a) = in_part q r _ _ x in
          let (_, u, _, g, _) = in_part p s (shown r2) m (rw e y) in
          (s, t, u, a, up p s r2 u (rw (e, g) y), up u t q2 p2 (rw (g, f) z))

      pub restricted_lawful : Lawful R
      restricted_lawful = record {
        undo = undo;
        swap_back = back;
        same_effect = λ p q q' p' h. L.same_effect _ _ _ _ (down p q q' p' h);
        turning = turn;
        three = three_from_front R undo back turn front;
        grows = record {
          keeps = λ p q q' p' h. L.grows.keeps _ _ _ _ (down p q q' p' h);
          bounds = λ p. L.grows.bounds (shown p);
        };
        reach = record {
          in_turn = λ p q. L.reach.in_turn (shown p) (shown q);
          each = λ p q d m e h k s. rw (S.inverts_in p) (L.reach.each (shown p) (shown q) d m e h k s);
        };
        stays_written = record {
          inverted = λ p w.
              let (a, b) = and_parts _ _ w in
              and_from _ _ (S.within_inverted p a) (rw (S.inverts_in p) (L.stays_written.inverted (shown p) b));
          commuted = λ p q q' p' h f v w.
              let (a, b) = and_parts _ _ v in
              let (c, d) = and_parts _ _ w in
              let k = down p q q' p' h in
              let (x, y) = S.within_commuted p q q' p' k a c in
              let (i, j) = L.stays_written.commuted _ _ _ _ k f b d in
              (and_from _ _ x i, and_from _ _ y j);
        };
        held_in_words = record {
          starts = L.held_in_words.starts;
          tells_fresh = L.held_in_words.tells_fresh;
          stays = λ p d e w. L.held_in_words.stays (shown p) d e (and_parts _ _ w).1;
          room = λ p. L.held_in_words.room (shown p);
          filled = L.held_in_words.filled;
          apart = L.held_in_words.apart;
        };
      }
