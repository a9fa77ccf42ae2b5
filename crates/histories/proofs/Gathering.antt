-- Needed patches commute left over those that are not needed.
use Rattle.std.proofs.Common.{◌≡◌, ℕ, Bool, true, false, cond, List, [], ◌∷◌, ◌++◌, Ok, sym, refl, ap, ◌∙◌, subst, inl, ⊎_elim, true≢false, append-nil, arith}
use Rattle.kinds.specs.Theory.{Theory}
use Rattle.kinds.specs.Sequences.{and_then, far_over, answer_over}
use Rattle.kinds.proofs.Grids.{Row}
use Rattle.kinds.proofs.Sequences.{of_row, row_near, growths_append}
use Rattle.histories.specs.History.{Rearranged, holds, gathered}
use Rattle.histories.proofs.Setting.{Setting}
use Rattle.histories.proofs.Names.{In, in_head, in_tail, Distinct, Disjoint, in_cast, in_left, in_right, in_split, in_other, no_names, distinct_apart, distinct_head, distinct_tail, apart_more}
use Rattle.histories.proofs.Rearranging.{◌▷◌, before, equal, to_left, reversed, stays_in, was_in, stays_distinct}
use Rattle.histories.proofs.Passing.{row_rearranged, row_name, row_out}
use Rattle.histories.proofs.Fronts.{Origin, inside, beyond, brought_rearranged, brought_one, brought_in, front_of}
use Rattle.histories.proofs.Prefixes.{Shared, shared_front}
use Rattle.histories.proofs.Standing.{Stands, stands_head, stands_apart, stays_standing}

module _ {P F : Type 0} {T : Theory P F} {name : P → ℕ} (S : Setting T name) where
  -- p is one of the patches w in front of a rearrangement, and none of us is: p commutes left over us
  comes_left : (us : List P) (p : P) (h w k : List P) → Rearranged T (us ++ p ∷ h) (w ++ k) → Distinct name (us ++ p ∷ h) → Disjoint name us w → In name (name p) w
      → (z : P) × (a : List P) × Row T us p z a
  comes_left us p h w k r d u i =
      let c = to_left us (p ∷ []) h in
      on (shared_front S w k (us ++ p ∷ []) h (reversed S r ▷ c) (stays_distinct S c d))
    where
      at_front : {z : P} {s : List P} → Origin T us (p ∷ []) z s → In name (name z) w → (z : P) × (a : List P) × Row T us p z a
      at_front (inside q e) j = absurd (u _ (brought_in S q) j)
      at_front {z} (beyond {a = a} l q e) j = (z, a, subst (λ y. Row T us y z a) (brought_one q).0 l)

      on : Shared T name w (us ++ p ∷ []) → (z : P) × (a : List P) × Row T us p z a
      on s = by s.shared s.whole s.fewer (⊎_elim (λ j. j) (λ j. absurd (s.apart (name p) j i)) (in_split s.shared (stays_in S s.whole (in_right us (in_head refl)))))
        where
          by : (v : List P) → Rearranged T (us ++ p ∷ []) (v ++ s.rest) → ((n : ℕ) → In name n v → In name n w) → In name (name p) v → (z : P) × (a : List P) × Row T us p z a
          by [] x f j = elim j [ ]
          by (z ∷ v) x f j = let (_, _, _, o) = front_of S us (p ∷ []) (reversed S x) in at_front o (f (name z) (in_head refl))

  -- of the patches that are named as one of ws, those of w are still to come
  pub record Coming (ws us h w : List P) : Type 0 where
    pub none_passed : Disjoint name us w
    pub all_come : (n : ℕ) → In name n h → holds name ws n ≡ true → In name n w
    pub no_other : (n : ℕ) → In name n w → holds name ws n ≡ true

  -- p commutes left over us, and the code says so
  near_over : (us : List P) (p : P) (h : List P) {d e : T.Doc} {z : P} {a : List P} → Stands T d (us ++ p ∷ h) e → Row T us p z a → answer_over T us p ≡ Ok (z, a)
  near_over us p h s r =
      let L = S.lawful in
      let (_, x, y) = stands_apart L us (p ∷ h) s in
      let (_, t, _) = stands_head L y in
      let small = s.small in
      let g = growths_append T us (p ∷ h) in
      let f : far_over T us p ≡ false = row_near T L x.takes t (inl (omega arith)) in
      rw (f, of_row T r)

  -- the next one is needed: it comes to the front
  record Next (ws us : List P) (p : P) (h k : List P) : Type 0 where
    arrived : P
    others : List P
    left : List P
    row : Row T us p arrived others
    rest : Rearranged T (others ++ h) (left ++ k)
    coming : Coming ws others h left

  next_comes : (ws us : List P) (p : P) (h w k : List P) → Rearranged T (us ++ p ∷ h) (w ++ k) → Distinct name (us ++ p ∷ h) → Coming ws us (p ∷ h) w → In name (name p) w → Next ws us p h k
  next_comes ws us p h w k r u c i = let (z, a, l) = comes_left us p h w k r u c.none_passed i in at l
    where
      at : {z : P} {a : List P} → Row T us p z a → Next ws us p h k
      at {z} {a} l = let (_, _, q, o) = front_of S w k (reversed S first ▷ r) in by_origin q o
        where
          first : Rearranged T (us ++ p ∷ h) (z ∷ (a ++ h))
          first = to_left us (p ∷ []) h ▷ before h (row_rearranged l)

          once : Distinct name (z ∷ (a ++ h))
          once = stays_distinct S first u

          by_origin : {s : List P} → Rearranged T (a ++ h) s → Origin T w k z s → Next ws us p h k
          by_origin q (beyond m b e) =
              absurd (distinct_apart w k (stays_distinct S r u) (name p) i (in_cast (sym (row_name S m) ∙ row_name S l) (brought_in S b)))
          by_origin q (inside {a = v} b e) = record {
            arrived = z;
            others = a;
            left = v;
            row = l;
            rest = q ▷ e;
            coming = record {
              none_passed = λ n x y. c.none_passed n (row_out S l x) (was_in S (brought_rearranged b) (in_tail y));
              all_come = λ n x t. in_other (stays_in S (brought_rearranged b) (c.all_come n (in_tail x) t)) (λ f. distinct_head once (in_cast (sym f) (in_right a x)));
              no_other = λ n y. c.no_other n (was_in S (brought_rearranged b) (in_tail y));
            };
          }

  -- all that are needed come to the front, and leave the others as they are behind w
  pub gathers : (ws us h w k : List P) (d e : T.Doc) → Rearranged T (us ++ h) (w ++ k) → Distinct name (us ++ h) → Coming ws us h w → Stands T d (us ++ h) e
      → (vs : List P) × (ks : List P) × (gathered T name ws us h ≡ Ok (vs, ks)) × Rearranged T ks k
  gathers ws us [] w k d e r u c s =
      let nothing = no_names w (λ n i. c.none_passed n (stays_in S (equal (append-nil us)) (was_in S r (in_left k i))) i) in
      ([], us, refl, equal (sym (append-nil us)) ▷ r ▷ equal (ap (λ x. x ++ k) nothing))
  gathers ws us (p ∷ h) w k d e r u c s = by_test (holds name ws (name p)) refl (λ a x m. gathers ws a h x k m e)
    where
      by_test : (b : Bool) → holds name ws (name p) ≡ b
          → ((a x : List P) (m : T.Doc) → Rearranged T (a ++ h) (x ++ k) → Distinct name (a ++ h) → Coming ws a h x → Stands T m (a ++ h) e
          → (vs : List P) × (ks : List P) × (gathered T name ws a h ≡ Ok (vs, ks)) × Rearranged T ks k)
          → (vs : List P) × (ks : List P)
          × (cond b (and_then (answer_over T us p) (λ (p', us'). and_then (gathered T name ws us' h) (λ (vs, ks). Ok (p' ∷ vs, ks)))) (gathered T name ws (us ++ p ∷ []) h) ≡ Ok (vs, ks))
          × Rearranged T ks k
      by_test true t ih =
          let n = next_comes ws us p h w k r u c (c.all_come (name p) (in_head refl) t) in
          let first = to_left us (p ∷ []) h ▷ before h (row_rearranged n.row) in
          let (_, _, s') = stands_head S.lawful (stays_standing S.lawful first s) in
          let (vs, ks, g, q) = ih n.others n.left _ n.rest (distinct_tail (stays_distinct S first u)) n.coming s' in
          (n.arrived ∷ vs, ks, rw (near_over us p h s n.row, g), q)
      by_test false t ih =
          let m = to_left us (p ∷ []) h in
          ih (us ++ p ∷ []) w d (reversed S m ▷ r) (stays_distinct S m u)
          (record {
            none_passed = apart_more us w c.none_passed (λ i. true≢false (sym (c.no_other (name p) i) ∙ t));
            all_come = λ n i. c.all_come n (in_tail i);
            no_other = c.no_other;
          })
          (stays_standing S.lawful m s)
