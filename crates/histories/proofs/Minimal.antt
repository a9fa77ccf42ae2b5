-- A patch with all that it depends on, and nothing else.
use Rattle.std.proofs.Common.{◌≡◌, ℕ, List, [], ◌∷◌, ◌++◌, sym, refl}
use Rattle.kinds.specs.Theory.{Theory}
use Rattle.kinds.specs.Laws.{Commutes}
use Rattle.kinds.proofs.Grids.{Row, nil, cons}
use Rattle.histories.specs.History.{Rearranged}
use Rattle.histories.proofs.Setting.{Setting, keeps}
use Rattle.histories.proofs.Names.{In, in_head, in_tail, Distinct, next, Sub, in_cast, in_right, in_other, single, distinct_head, distinct_tail}
use Rattle.histories.proofs.Rearranging.{◌▷◌, to_right, before, reversed, stays_in, was_in, stays_distinct}
use Rattle.histories.proofs.Passing.{row_rearranged, row_join, row_split_after, row_in, row_out, rearrange_after}
use Rattle.histories.proofs.Fronts.{Origin, inside, beyond, brought_rearranged, brought_in, front_of}
use Rattle.histories.proofs.Prefixes.{sub_front_names}

-- of w and then n, no patch but the last commutes right over all behind it
abbrev pub Minimal : {P F : Type 0} → Theory P F → List P → P → Type 0
Minimal T [] n = Unit {0}
Minimal {P} T (x ∷ w) n = ((s : List P) (y : P) → Row T s y x (w ++ n ∷ []) → ⊥) × Minimal T w n

module _ {P F : Type 0} {T : Theory P F} {name : P → ℕ} (S : Setting T name) where
  -- a front part of a history that holds n holds all that n depends on
  pub depends_in : (w : List P) (n : P) (m c x : List P) → Minimal T w n → Distinct name (c ++ x) → Rearranged T (w ++ n ∷ m) (c ++ x)
      → In name (name n) c → Sub name (w ++ n ∷ []) c
  depends_in [] n m c x t d p i = λ k j. in_cast (single j) i
  depends_in (e ∷ w) n m c x t d p i = let (_, u, k, o) = front_of S c x p in go k (stays_distinct S u d) o (depends_in w n m)
    where
      go : {r : List P} → Rearranged T (w ++ n ∷ m) r → Distinct name (e ∷ r) → Origin T c x e r
          → ((b y : List P) → Minimal T w n → Distinct name (b ++ y) → Rearranged T (w ++ n ∷ m) (b ++ y) → In name (name n) b → Sub name (w ++ n ∷ []) b)
          → Sub name (e ∷ (w ++ n ∷ [])) c
      go k dr (inside {a = b} q h) ih = all
        where
          other : name e ≡ name n → ⊥
          other z = distinct_head dr (in_cast (sym z) (stays_in S k (in_right w (in_head refl))))

          behind_it : Sub name (w ++ n ∷ []) b
          behind_it = ih b x t.1 (stays_distinct S h (distinct_tail dr)) (k ▷ h) (in_other (stays_in S (brought_rearranged q) i) other)

          all : Sub name (e ∷ (w ++ n ∷ [])) c
          all l (in_head z) = was_in S (brought_rearranged q) (in_head z)
          all l (in_tail j) = was_in S (brought_rearranged q) (in_tail (behind_it l j))
      go k dr (beyond {a = a} {b = b} q l h) ih =
          let dab = stays_distinct S h (distinct_tail dr) in
          let f = ih a b t.1 dab (k ▷ h) (row_in S q i) in
          let g = sub_front_names S (w ++ n ∷ []) m a b (to_right w (n ∷ []) m ▷ k ▷ h) dab f in
          let (_, z, _) = rearrange_after S q g.whole in
          absurd (t.0 _ _ (row_split_after (w ++ n ∷ []) g.rest z).3)

  -- a patch has commuted right over a minimal block: the block is still minimal
  still_needed : (w : List P) (n a b x z : P) {s v : List P} {y u : P} → Row T (b ∷ s) z x (a ∷ (w ++ n ∷ [])) → Row T s z y (w ++ n ∷ [])
      → Distinct name (x ∷ a ∷ (w ++ n ∷ [])) → Minimal T (a ∷ w) n → Row T v u b s → ⊥
  still_needed w n a b x z {s} {v} {y} {u} c c1 d t k =
      let p : Rearranged T (x ∷ a ∷ (w ++ n ∷ [])) (v ++ u ∷ z ∷ []) = reversed S (row_rearranged c) ▷ reversed S (before (z ∷ []) (row_rearranged k)) ▷ to_right v (u ∷ []) (z ∷ []) in
      let (_, f, q, o) = front_of S v (u ∷ z ∷ []) p in
      go q (stays_distinct S f (stays_distinct S p d)) o
    where
      known : {m : ℕ} → In name m v → In name m (w ++ n ∷ [])
      known i = row_in S c1 (row_in S k i)

      go : {r : List P} → Rearranged T (a ∷ (w ++ n ∷ [])) r → Distinct name (x ∷ r) → Origin T v (u ∷ z ∷ []) x r → ⊥
      go q dr (inside l h) = distinct_head d (in_tail (known (brought_in S l)))
      go q dr (beyond {a = i} {b = o} l m h) =
          let j = row_in S l (row_out S k (row_out S c1 (in_right w (in_head refl)))) in
          let f = depends_in (a ∷ w) n [] i o t (stays_distinct S h (distinct_tail dr)) (q ▷ h) j in
          distinct_head (distinct_tail d) (known (row_out S l (f (name a) (in_head refl))))

  skip : {x y a : P} {s : List P} → name y ≡ name x → Distinct name (x ∷ a ∷ s) → Distinct name (y ∷ s)
  skip e (next h (next k d)) = next (λ i. h (in_tail (in_cast e i))) d

  pub stays_minimal : {w v : List P} {n m x y z : P} → Row T v y x w → Commutes T m z y n → Distinct name (x ∷ (w ++ n ∷ [])) → Minimal T w n → Minimal T v m
  stays_minimal nil q d t = tt
  stays_minimal {n = n} {z = z} (cons {p = b} {q2 = x} {p' = a} {ps' = w} r c) q d t =
      let l = row_join r (cons nil q) in
      (λ s u k. still_needed w n a b x z (cons l c) l d t k, stays_minimal r q (skip (sym (keeps S c).0) d) t.1)
