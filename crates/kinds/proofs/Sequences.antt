-- Sequences of patches of a kind that keeps the laws keep the laws.
use Rattle.std.proofs.Common.{◌≡◌, ℕ, ◌+◌, ◌≤◌, Bool, true, false, ◌⊎◌, List, [], ◌∷◌, ◌++◌, length, Some, None, Ok, Err, Option, Result, sym, refl, ap, ◌∙◌, subst, inl, inr, ⊎_elim, append_assoc, append-nil, zero-add, arith, length-append}
use mathlib.Core.Logic.{⊎_map}
use Rattle.std.proofs.lemmas.Bool.{and_parts, and_from, or_parts, or_from}
use Rattle.kinds.proofs.Cases.{ok_one, some_one}
use Rattle.kinds.specs.Theory.{Theory}
use Rattle.kinds.specs.Laws.{most, Takes, Commutes, Undo, SwapBack, Turning, FrontFirst, BackFirst, Lawful}
use Rattle.kinds.specs.Parts.{part}
use Rattle.kinds.specs.Sequences.{◌>>=◌, and_then, is_some_and, is_ok_and, found_at, apply_from, inverses, over, all_over, far_over, far_all_over, growths, all_written, full_along, sequences}
use Rattle.kinds.proofs.Halves.{Forward, undo_from_forward, both_ways, three_from_front}
use Rattle.kinds.proofs.Parts.{part_ok}
use Rattle.kinds.proofs.Grids.{Row, nil, cons, Grid, stop, more, grid_lengths, grid_back, row_turn, grid_turn, three_grids}

-- answers that may stop
pub some_then : {A B : Type 0} (o : Option A) (f : A → Option B) (b : B) → (o >>= f) ≡ Some b → (a : A) × (o ≡ Some a) × (f a ≡ Some b)
some_then None f b e = absurd (let z : ◌≡◌ {A = ℕ} 0 1 = cc in omega arith)
some_then (Some a) f b e = (a, refl, e)

ok_then : {A B E : Type 0} (r : Result A E) (f : A → Result B E) (b : B) → and_then r f ≡ Ok b → (a : A) × (r ≡ Ok a) × (f a ≡ Ok b)
ok_then (Ok a) f b e = (a, refl, e)
ok_then (Err x) f b e = absurd (let z : ◌≡◌ {A = ℕ} 0 1 = cc in omega arith)

is_some_and_not : {A : Type 0} (o : Option A) (f : A → Bool) → ((a : A) → o ≡ Some a → f a ≡ false) → is_some_and o f ≡ false
is_some_and_not None f h = refl
is_some_and_not (Some a) f h = h a refl

is_ok_and_not : {A E : Type 0} (r : Result A E) (f : A → Bool) → ((a : A) → r ≡ Ok a → f a ≡ false) → is_ok_and r f ≡ false
is_ok_and_not (Ok a) f h = h a refl
is_ok_and_not (Err x) f h = refl

module _ {P F : Type 0} (T : Theory P F) where
  open T use {Doc, size, apply, invert, commute, growth, written, far, full, fits}

  -- the rule of commuting and the grid, both ways
  pub row_of : (ps : List P) (q : P) (r : P × List P) → over T ps q ≡ Some r → Row T ps q r.0 r.1
  row_of [] q r e = subst (λ (z : P × List P). Row T [] q z.0 z.1) (some_one _ _ e) nil
  row_of (p ∷ ps) q r e =
      let (x, a, b) = some_then (over T ps q) _ r e in
      let (y, c, f) = some_then (commute p x.0) _ r b in
      subst (λ (z : P × List P). Row T (p ∷ ps) q z.0 z.1) (some_one _ _ f) (cons (row_of ps q x a) c)

  pub of_row : {ps ps' : List P} {q q' : P} → Row T ps q q' ps' → over T ps q ≡ Some (q', ps')
  of_row nil = refl
  of_row (cons h c) = rw (of_row h, c)

  pub grid_of : (ps qs : List P) (r : List P × List P) → all_over T ps qs ≡ Some r → Grid T ps qs r.0 r.1
  grid_of ps [] r e = subst (λ (z : List P × List P). Grid T ps [] z.0 z.1) (some_one _ _ e) stop
  grid_of ps (q ∷ qs) r e =
      let (x, a, b) = some_then (over T ps q) _ r e in
      let (y, c, f) = some_then (all_over T x.1 qs) _ r b in
      subst (λ (z : List P × List P). Grid T ps (q ∷ qs) z.0 z.1) (some_one _ _ f) (more (row_of ps q x a) (grid_of x.1 qs y c))

  pub of_grid : {ps qs qs' ps' : List P} → Grid T ps qs qs' ps' → all_over T ps qs ≡ Some (qs', ps')
  of_grid stop = refl
  of_grid (more h w) = rw (of_row h, of_grid w)

  -- the inverses
  inverses_append : (xs ys : List P) → inverses T (xs ++ ys) ≡ inverses T ys ++ inverses T xs
  inverses_append [] ys = sym (append-nil (inverses T ys))
  inverses_append (x ∷ xs) ys = ap (λ z. z ++ invert x ∷ []) (inverses_append xs ys) ∙ append_assoc (inverses T ys) (inverses T xs) (invert x ∷ [])

  inverses_twice : ((p : P) → invert (invert p) ≡ p) → (ps : List P) → inverses T (inverses T ps) ≡ ps
  inverses_twice h [] = refl
  inverses_twice h (p ∷ ps) = inverses_append (inverses T ps) (invert p ∷ []) ∙ cc (h p, inverses_twice h ps)

  -- lengths stay
  pub inverses_length : (ps : List P) → length (inverses T ps) ≡ length ps
  inverses_length [] = refl
  inverses_length (p ∷ ps) = let i = inverses_length ps in simp length-append (omega arith)

  pub commuted_lengths : (ps qs qs' ps' : List P) → Commutes (sequences T) ps qs qs' ps' → (length qs' ≡ length qs) × (length ps' ≡ length ps)
  commuted_lengths ps qs qs' ps' h = grid_lengths T (grid_of ps qs (qs', ps') h)

  -- sums and tests over a sequence and then another
  pub growths_append : (xs ys : List P) → growths T (xs ++ ys) ≡ growths T xs + growths T ys
  growths_append [] ys = sym (zero-add (growths T ys))
  growths_append (x ∷ xs) ys = let i = growths_append xs ys in omega arith

  pub written_append : (xs ys : List P) → all_written T xs ≡ true → all_written T ys ≡ true → all_written T (xs ++ ys) ≡ true
  written_append [] ys v w = w
  written_append (x ∷ xs) ys v w = let (a, b) = and_parts _ _ v in and_from _ _ a (written_append xs ys b w)

  -- the steps take d to e
  pub data Run : List P → Doc → Doc → Type 0 where
    end : {d : Doc} → Run [] d d
    step : {p : P} {ps : List P} {d m e : Doc} → Takes T p d m → Run ps m e → Run (p ∷ ps) d e

  pub run_of : (n : ℕ) (ps : List P) (d e : Doc) → apply_from T n ps d ≡ Ok e → Run ps d e
  run_of n [] d e h = subst (λ (z : Doc). Run [] d z) (ok_one _ _ h) end
  run_of n (p ∷ ps) d e h =
      let (m, a, b) = ok_then (part (λ x. x) (found_at n) (apply p d)) _ e h in
      let (m', c, f) = part_ok (λ x. x) (found_at n) (apply p d) m a in
      step (c ∙ ap Ok f) (run_of (n + 1) ps m e b)

  pub of_run : (n : ℕ) {ps : List P} {d e : Doc} → Run ps d e → apply_from T n ps d ≡ Ok e
  of_run n end = refl
  of_run n (step a r) = rw (a, of_run (n + 1) r)

  pub run_join : {ps qs : List P} {d m e : Doc} → Run ps d m → Run qs m e → Run (ps ++ qs) d e
  run_join end k = k
  run_join (step a r) k = step a (run_join r k)

  module _ (L : Lawful T) where
    pub run_undo : {ps : List P} {d e : Doc} → Run ps d e → Run (inverses T ps) e d
    run_undo end = end
    run_undo (step a r) = run_join (run_undo r) (step ((L.undo.takes_back _ _ _).0 a) end)

    -- same effect, forwards
    pub row_same : {ps ps' : List P} {q q' : P} {d m e : Doc} → Row T ps q q' ps' → Run ps d m → Takes T q m e → (n : Doc) × Takes T q' d n × Run ps' n e
    row_same nil end a = (_, a, end)
    row_same (cons h c) (step b r) a =
        let (_, i, j) = row_same h r a in
        let (_, s, t) = (L.same_effect _ _ _ _ c _ _).0 (_, b, i) in
        (_, s, step t j)

    pub grid_same : {ps qs qs' ps' : List P} {d m e : Doc} → Grid T ps qs qs' ps' → Run ps d m → Run qs m e → (n : Doc) × Run qs' d n × Run ps' n e
    grid_same stop r end = (_, end, r)
    grid_same (more h w) r (step a k) =
        let (_, i, j) = row_same h r a in
        let (_, s, t) = grid_same w j k in
        (_, step i s, t)

    -- growth
    pub row_keeps : {ps ps' : List P} {q q' : P} → Row T ps q q' ps' → (growth q' ≡ growth q) × (growths T ps' ≡ growths T ps)
    row_keeps nil = (refl, refl)
    row_keeps (cons h c) =
        let (i, j) = row_keeps h in
        let (k, l) = L.grows.keeps _ _ _ _ c in
        (k ∙ i, cc)

    pub grid_keeps : {ps qs qs' ps' : List P} → Grid T ps qs qs' ps' → (growths T qs' ≡ growths T qs) × (growths T ps' ≡ growths T ps)
    grid_keeps stop = (refl, refl)
    grid_keeps (more h w) =
        let (i, j) = row_keeps h in
        let (k, l) = grid_keeps w in
        (cc, l ∙ j)

    pub run_grows : {ps : List P} {d e : Doc} → Run ps d e → size e ≤ size d + growths T ps
    run_grows end = omega arith
    run_grows (step a r) = let i = run_grows r in let k = L.grows.bounds _ _ _ a in omega arith

    -- reach: ps take d to m, g is the growth of what follows, and the sizes are small enough
    -- at d for ps, or at m for the inverses of ps
    abbrev pub Small : List P → Doc → Doc → ℕ → Type 0
    Small ps d m g = (size d + growths T ps + g ≤ most) ⊎ (size m + growths T (inverses T ps) + g ≤ most)

    step_near : {p q : P} {d m e : Doc} → Takes T p d m → Takes T q m e → Small (p ∷ []) d m (growth q) → far p q ≡ false
    step_near {p} {q} a b = ⊎_elim
        (λ s. L.reach.in_turn _ _ _ _ (_, a, b) (omega arith))
        (λ s. subst (λ (z : P). far z q ≡ false) (L.undo.twice p) (L.reach.each _ _ _ _ _ ((L.undo.takes_back _ _ _).0 a) b (omega arith)))

    pub row_near : {ps : List P} {q : P} {d m e : Doc} → Run ps d m → Takes T q m e → Small ps d m (growth q) → far_over T ps q ≡ false
    row_near end a s = refl
    row_near {q = q} (step {p = p} {ps = ps} b r) a s =
        let k = L.grows.bounds _ _ _ b in
        let u = run_grows (run_undo r) in
        let v = growths_append (inverses T ps) (invert p ∷ []) in
        or_from _ _ (row_near r a (⊎_map (λ x. omega arith) (λ x. omega arith) s))
        (is_some_and_not (over T ps q) _ (λ x y.
        let g = row_of ps q x y in
        let (_, i, j) = row_same g r a in
        let (l, _) = row_keeps g in
        step_near b i (⊎_map (λ x. omega arith) (λ x. omega arith) s)))

    pub grid_near : {qs ps : List P} {d m e : Doc} → Run ps d m → Run qs m e → Small ps d m (growths T qs) → far_all_over T ps qs ≡ false
    grid_near r end s = refl
    grid_near {ps = ps} r (step {p = q} {ps = qs} a k) s =
        or_from _ _ (row_near r a (⊎_map (λ x. omega arith) (λ x. omega arith) s))
        (is_some_and_not (over T ps q) _ (λ x y.
        let g = row_of ps q x y in
        let (_, i, j) = row_same g r a in
        let (l, l') = row_keeps g in
        let (_, t) = row_keeps (row_turn T L g) in
        let u = L.grows.bounds _ _ _ i in
        let v = L.grows.bounds _ _ _ a in
        grid_near j k (⊎_map (λ x. omega arith) (λ x. omega arith) s)))

    -- what can be written
    pub row_written : {ps ps' : List P} {q q' : P} → Row T ps q q' ps' → far_over T ps q ≡ false → all_written T ps ≡ true → written q ≡ true
        → (written q' ≡ true) × (all_written T ps' ≡ true)
    row_written nil f v w = (w, refl)
    row_written (cons h c) f v w =
        let (f1, f2) = or_parts _ _ f in
        let (v1, v2) = and_parts _ _ v in
        let (i, j) = row_written h f1 v2 w in
        let (k, l) = L.stays_written.commuted _ _ _ _ c (rw (of_row h) at f2) v1 i in
        (k, and_from _ _ l j)

    pub grid_written : {ps qs qs' ps' : List P} → Grid T ps qs qs' ps' → far_all_over T ps qs ≡ false → all_written T ps ≡ true → all_written T qs ≡ true
        → (all_written T qs' ≡ true) × (all_written T ps' ≡ true)
    grid_written stop f v w = (refl, v)
    grid_written (more h k) f v w =
        let (f1, f2) = or_parts _ _ f in
        let (w1, w2) = and_parts _ _ w in
        let (i, j) = row_written h f1 v w1 in
        let (x, y) = grid_written k (rw (of_row h) at f2) j w2 in
        (and_from _ _ i x, y)

    inverses_written : (ps : List P) → all_written T ps ≡ true → all_written T (inverses T ps) ≡ true
    inverses_written [] w = refl
    inverses_written (p ∷ ps) w =
        let (a, b) = and_parts _ _ w in
        written_append (inverses T ps) (invert p ∷ []) (inverses_written ps b) (and_from _ _ (L.stays_written.inverted p a) refl)

    -- what the words hold
    pub run_fits : {ps : List P} {d e : Doc} → Run ps d e → all_written T ps ≡ true → fits d → full_along T ps d ≡ false → fits e
    run_fits end w h f = h
    run_fits {d = d} (step {p = p} {m = m} a r) w h f =
        let (w1, w2) = and_parts _ _ w in
        let (f1, f2) = or_parts _ _ f in
        run_fits r w2 (L.held_in_words.stays p d m w1 h f1 a) (rw a at f2)

    pub room_along : (ps : List P) (d : Doc) → size d + growths T ps ≤ most → full_along T ps d ≡ false
    room_along [] d h = refl
    room_along (p ∷ ps) d h =
        or_from _ _ (L.held_in_words.room p d (omega arith))
        (is_ok_and_not (apply p d) _ (λ e a. let k = L.grows.bounds p d e a in room_along ps e (omega arith)))

    seq_undo : Undo (sequences T)
    seq_undo = undo_from_forward (sequences T) (λ ps d e h. of_run 0 (run_undo (run_of 0 ps d e h))) (inverses_twice L.undo.twice)

    seq_back : SwapBack (sequences T)
    seq_back ps qs qs' ps' h = of_grid (grid_back T L (grid_of ps qs (qs', ps') h))

    seq_forward : Forward (sequences T)
    seq_forward ps qs qs' ps' h d e (m, a, b) =
        let (n, i, j) = grid_same (grid_of ps qs (qs', ps') h) (run_of 0 ps d m a) (run_of 0 qs m e b) in
        (n, of_run 0 i, of_run 0 j)

    seq_turn : Turning (sequences T)
    seq_turn ps qs qs' ps' h = of_grid (grid_turn T L (grid_of ps qs (qs', ps') h))

    seq_three : (ps qs rs rs2 qs2 ps2 : List P) → FrontFirst (sequences T) ps qs rs rs2 qs2 ps2 → BackFirst (sequences T) ps qs rs rs2 qs2 ps2
    seq_three ps qs rs rs2 qs2 ps2 (qs1, ps1, rs1, h, k, l) =
        let (s, t, u, x, y, z) = three_grids T L (grid_of ps qs (qs1, ps1) h) (grid_of ps1 rs (rs1, ps2) k) (grid_of qs1 rs1 (rs2, qs2) l) in
        (s, t, u, of_grid x, of_grid y, of_grid z)

    pub sequences_lawful : Lawful (sequences T)
    sequences_lawful = record {
      undo = seq_undo;
      swap_back = seq_back;
      same_effect = both_ways (sequences T) seq_back seq_forward;
      turning = seq_turn;
      three = three_from_front (sequences T) seq_undo seq_back seq_turn seq_three;
      grows = record {
        keeps = λ ps qs qs' ps' h. grid_keeps (grid_of ps qs (qs', ps') h);
        bounds = λ ps d e h. run_grows (run_of 0 ps d e h);
      };
      reach = record {
        in_turn = λ ps qs d e (m, h, k) s. grid_near (run_of 0 ps d m h) (run_of 0 qs m e k) (inl s);
        each = λ ps qs d m e h k s.
            grid_near (run_undo (run_of 0 ps d m h)) (run_of 0 qs d e k) (inr (rw (inverses_twice L.undo.twice ps) s));
      };
      stays_written = record {
        inverted = inverses_written;
        commuted = λ ps qs qs' ps' h. grid_written (grid_of ps qs (qs', ps') h);
      };
      held_in_words = record {
        starts = L.held_in_words.starts;
        tells_fresh = L.held_in_words.tells_fresh;
        stays = λ ps d e w h f a. run_fits (run_of 0 ps d e a) w h f;
        room = room_along;
        filled = L.held_in_words.filled;
        apart = L.held_in_words.apart;
      };
    }
