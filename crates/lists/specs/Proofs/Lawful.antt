-- Hunks keep the laws of a kind.
use Rattle.std.proofs.Common.{◌≡◌, ◌+◌, ◌-◌, ◌*◌, ◌<◌, ◌≤◌, true, false, ◌&&◌, eqb, ltb, leb, ◌↔◌, List, [], ◌∷◌, length, replicate, Some, None, Ok, Err, Option, Result, refl, add-one, arith}
use Rattle.std.proofs.lemmas.Bool.{leb-true, le-leb, ltb-true, ltb-false, lt-ltb, le-ltb, eqb-true, and_parts, or_from, or_parts}
use Rattle.kinds.specs.Laws.{most, Undo, SwapBack, Turning, Three, Growth, Reach, StaysWritten, HeldInWords, Lawful, Takes, Then, Commutes, FrontFirst, BackFirst}
use Rattle.kinds.proofs.Halves.{both_ways, three_from_front}
use Rattle.lists.specs.declared.hunk.Hunk.{Hunk}
use Rattle.lists.specs.declared.hunk.ListFault.{ListFault}
use Rattle.lines.specs.Line.{Form}
use Rattle.lists.specs.Hunk.{lines_of, count, moved, exchanged, hunks_commute, hunk_apply, too_long, start_too_far, last_start, all_written, hunk_written, lists}
use Rattle.lists.specs.Proofs.Places.{Place, Swap, way}
use Rattle.lists.specs.Proofs.Places as places
use Rattle.lists.specs.Proofs.Steps.{Step, Tells, sizes, takes_from_step, step_from_takes}
use Rattle.lists.specs.Proofs.Exchanges.{Moved, Exchange, place, there, onward, returned, flipped, exchange_from_commutes, commutes_from_exchange, same_effect}
use Rattle.lists.specs.Proofs.Filling.{Fills, Reads, length_filled_up, same_lists}

-- the parts of a hunk that can be written
record Written {L : Type 0} (F : Form L) (h : Hunk L) : Type 0 where
  starts : h.start ≤ last_start
  some : 0 < count h.old + count h.new
  olds : all_written F (lines_of h.old) ≡ true
  news : all_written F (lines_of h.new) ≡ true

module _ {L : Type 0} (F : Form L) where
  parts : (h : Hunk L) → hunk_written F h ≡ true → Written F h
  parts h w =
      let (s, r) = and_parts (leb h.start last_start) (ltb 0 (count h.old + count h.new) && (all_written F (lines_of h.old) && all_written F (lines_of h.new))) w in
      let (n, l) = and_parts (ltb 0 (count h.old + count h.new)) (all_written F (lines_of h.old) && all_written F (lines_of h.new)) r in
      let (a, b) = and_parts (all_written F (lines_of h.old)) (all_written F (lines_of h.new)) l in
      record { starts = leb-true h.start last_start s; some = ltb-true 0 (count h.old + count h.new) n; olds = a; news = b }

  whole : (h : Hunk L) → Written F h → hunk_written F h ≡ true
  whole h w = rw (le-leb h.start last_start w.starts, lt-ltb 0 (count h.old + count h.new) w.some, w.olds, w.news)

  -- the same lines at a start in range
  written_there : (a h : Hunk L) → Moved a h → ltb last_start a.start ≡ false → hunk_written F h ≡ true → hunk_written F a ≡ true
  written_there a h m f w =
      let p = parts h w in
      whole a (record {
        starts = ltb-false last_start a.start f;
        some = rw (m.olds, m.news) p.some;
        olds = rw m.olds p.olds;
        news = rw m.news p.news;
      })

module _ {L : Type 0} (F : Form L) (fills : Fills F) (reads : Reads F) (tells : Tells F) where
  taken : (h : Hunk L) (d e : List L) → Takes (lists F) h d e → Step h d e
  taken h d e t = step_from_takes F tells h d e t

  takes : (h : Hunk L) (d e : List L) → Step h d e → Takes (lists F) h d e
  takes h d e s = takes_from_step F tells h d e s

  turned : (h : Hunk L) (d e : List L) → Step h d e → Step (exchanged h) e d
  turned h d e s = record { front = s.front; behind = s.behind; at = s.at; was = s.becomes; becomes = s.was }

  undo : Undo (lists F)
  undo = record {
    takes_back = λ h d e. (λ t. takes (exchanged h) e d (turned h d e (taken h d e t)), λ t. takes h d e (turned (exchanged h) e d (taken (exchanged h) e d t)));
    twice = λ h. refl;
  }

  swap_back : SwapBack (lists F)
  swap_back p q a b h =
      let x = exchange_from_commutes p q a b h in
      commutes_from_exchange a b p q (record { first = returned x.second; second = returned x.first; swap = places.back x.swap })

  forth : (p q a b : Hunk L) → Commutes (lists F) p q a b → (d e : List L) → Then (lists F) p q d e → Then (lists F) a b d e
  forth p q a b h d e (m, s, t) =
      let (n, u, v) = same_effect p q a b (exchange_from_commutes p q a b h) d m e (taken p d m s) (taken q m e t) in
      (n, takes a d n u, takes b n e v)

  turning : Turning (lists F)
  turning p q a b h =
      let x = exchange_from_commutes p q a b h in
      commutes_from_exchange (exchanged p) a q (exchanged b) (record { first = returned x.first; second = flipped x.second; swap = places.turn x.swap })

  front_to_back : (p q r r2 q2 p2 : Hunk L) → FrontFirst (lists F) p q r r2 q2 p2 → BackFirst (lists F) p q r r2 q2 p2
  front_to_back p q r r2 q2 p2 (q1, p1, r1, h, k, l) = at_places (places.three x.swap y.swap z.swap)
    where
      x : Exchange p q q1 p1
      x = exchange_from_commutes p q q1 p1 h

      y : Exchange p1 r r1 p2
      y = exchange_from_commutes p1 r r1 p2 k

      z : Exchange q1 r1 r2 q2
      z = exchange_from_commutes q1 r1 r2 q2 l

      at_places : (s : Place) × (t : Place) × (u : Place) × Swap (place q) (place r) s t × Swap (place p) s (place r2) u × Swap u t (place q2) (place p2) → BackFirst (lists F) p q r r2 q2 p2
      at_places (s, t, u, i, j, m) =
          let r' = moved r s.at in
          let q' = moved q t.at in
          let p' = moved p u.at in (
            r',
            q',
            p',
            commutes_from_exchange q r r' q' (record { first = there r s.at; second = there q t.at; swap = omega arith }),
            commutes_from_exchange p r' r2 p' (record { first = onward z.first (onward y.first (returned (there r s.at))); second = there p u.at; swap = omega arith }),
            commutes_from_exchange p' q' q2 p2 (record { first = onward z.second (onward x.first (returned (there q t.at))); second = onward y.second (onward x.second (returned (there p u.at))); swap = omega arith }),
          )

  three : Three (lists F)
  three = three_from_front (lists F) undo swap_back turning front_to_back

  grows : Growth (lists F)
  grows = record {
    keeps = λ p q a b h. let x = exchange_from_commutes p q a b h in (x.swap.new_a, x.swap.new_b);
    bounds = λ h d e t. omega (arith, sizes h d e (taken h d e t));
  }

  -- starts that add up to little stay small
  near : (p q : Hunk L) → p.start + count p.old + q.start + count q.new ≤ last_start → start_too_far (hunks_commute p q) ≡ false
  near p q l = go (hunks_commute p q) refl
    where
      go : (o : Option (Hunk L × Hunk L)) → hunks_commute p q ≡ o → start_too_far o ≡ false
      go None e = refl
      go (Some (a, b)) e =
          let w = way (exchange_from_commutes p q a b e).swap in
          or_from (ltb last_start a.start) (ltb last_start b.start) (le-ltb last_start a.start (omega arith)) (le-ltb last_start b.start (omega arith))

  reach : Reach (lists F)
  reach = record {
    in_turn = λ p q d e t l. let (m, u, v) = t in near p q (omega (arith, sizes p d m (taken p d m u), sizes q m e (taken q m e v)));
    each = λ p q d m e u v l. near (exchanged p) q (omega (arith, sizes p d m (taken p d m u), sizes q d e (taken q d e v)));
  }

  stays_written : StaysWritten (lists F)
  stays_written = record {
    inverted = λ h w. let p = parts F h w in whole F (exchanged h) (record { starts = p.starts; some = omega arith; olds = p.news; news = p.olds });
    commuted = commuted;
  }
    where
      commuted : (p q a b : Hunk L) → Commutes (lists F) p q a b → start_too_far (hunks_commute p q) ≡ false → hunk_written F p ≡ true → hunk_written F q ≡ true → (hunk_written F a ≡ true) × (hunk_written F b ≡ true)
      commuted p q a b h f v w =
          let x = exchange_from_commutes p q a b h in
          let (k, l) = or_parts (ltb last_start a.start) (ltb last_start b.start) (rw h at f) in
          (written_there F a q x.first k w, written_there F b p x.second l v)

  room : (h : Hunk L) (d : List L) → length d + count h.new ≤ most → too_long (hunk_apply F h d) ≡ false
  room h d l = go (hunk_apply F h d) refl
    where
      go : (r : Result (List L) ListFault) → hunk_apply F h d ≡ r → too_long r ≡ false
      go (Ok e) t = le-ltb most (length e) (omega (arith, sizes h d e (taken h d e t)))
      go (Err f) t = refl

  tells_fresh : (d : List L) → (eqb (length d) 0 ≡ true) ↔ (d ≡ [])
  tells_fresh [] = (λ _. refl, λ _. refl)
  tells_fresh (l ∷ d) = (λ h. absurd (omega (arith, eqb-true (length (l ∷ d)) 0 h)), λ h. cc)

  held : HeldInWords (lists F)
  held = record {
    starts = (omega arith, refl, rw add-one);
    tells_fresh = tells_fresh;
    stays = λ h d e w l f t. ltb-false most (length e) (rw t at f);
    room = room;
    filled = λ d l. omega (arith, length_filled_up F fills d l);
    apart = λ d e k l h. same_lists F fills reads d e (replicate ((most - length d) * F.width) 0) (replicate ((most - length e) * F.width) 0) (cc) (cc);
  }

  pub lists_lawful : Lawful (lists F)
  lists_lawful = record {
    undo = undo;
    swap_back = swap_back;
    same_effect = both_ways (lists F) swap_back forth;
    turning = turning;
    three = three;
    grows = grows;
    reach = reach;
    stays_written = stays_written;
    held_in_words = held;
  }
