-- The first patches of a history, in its rearrangements.
use Rattle.std.proofs.Common.{ℕ, List, [], ◌∷◌, ◌++◌, sym, refl, ◌∙◌}
use Rattle.kinds.specs.Theory.{Theory}
use Rattle.histories.specs.History.{Rearranged, done}
use Rattle.histories.proofs.Setting.{Setting, keeps}
use Rattle.histories.proofs.Names.{In, in_head, in_tail, Distinct, next, Disjoint, Sub, in_cast, in_left, in_right, in_other, distinct_apart, distinct_head, distinct_tail}
use Rattle.histories.proofs.Rearranging.{◌▷◌, behind_one, equal, reversed, was_in, stays_distinct}
use Rattle.histories.proofs.Passing.{row_name, row_in, rearrange_after, row_split_after}
use Rattle.histories.proofs.Fronts.{Brought, first, later, Origin, inside, beyond, brought_rearranged, brought_in, to_front, front_of}

-- b is a and then the rest, and the rest and then y are x
pub record Rest {P F : Type 0} (T : Theory P F) (a x b y : List P) : Type 0 where
  pub rest : List P
  pub whole : Rearranged T b (a ++ rest)
  pub after : Rearranged T (rest ++ y) x

-- the patches of c whose names a holds stand in front
pub record Shared {P F : Type 0} (T : Theory P F) (name : P → ℕ) (a c : List P) : Type 0 where
  pub shared : List P
  pub rest : List P
  pub whole : Rearranged T c (shared ++ rest)
  pub fewer : Sub name shared a
  pub apart : Disjoint name rest a

module _ {P F : Type 0} {T : Theory P F} {name : P → ℕ} (S : Setting T name) where
  -- if a then x are b then y, and a shares no name with y, then a stands in front of b
  pub sub_front : (a x b y : List P) → Rearranged T (a ++ x) (b ++ y) → Disjoint name a y → Rest T a x b y
  sub_front [] x b y p d = record { rest = b; whole = done; after = reversed S p }
  sub_front (e ∷ a) x b y p d = let (_, _, k, o) = front_of S b y p in go k o (sub_front a x)
    where
      go : {r : List P} → Rearranged T (a ++ x) r → Origin T b y e r
          → ((c z : List P) → Rearranged T (a ++ x) (c ++ z) → Disjoint name a z → Rest T a x c z) → Rest T (e ∷ a) x b y
      go k (inside {a = c} q h) ih =
          let r = ih c y (k ▷ h) (λ n i j. d n (in_tail i) j) in
          record { rest = r.rest; whole = brought_rearranged q ▷ behind_one e r.whole; after = r.after }
      go k (beyond c q h) ih = absurd (d (name e) (in_head refl) (in_cast (sym (row_name S c)) (brought_in S q)))

  -- in a history with distinct names it is enough that b holds the names of a
  pub sub_front_names : (a x b y : List P) → Rearranged T (a ++ x) (b ++ y) → Distinct name (b ++ y) → Sub name a b → Rest T a x b y
  sub_front_names a x b y p d f = sub_front a x b y p (λ n i j. distinct_apart b y d n (f n i) j)

  -- the same patches in front can be left out
  cancel_one : {x : P} {s t : List P} → Rearranged T (x ∷ s) (x ∷ t) → (In name (name x) t → ⊥) → Rearranged T s t
  cancel_one p h = let (_, q, k) = to_front S p in k ▷ reversed S (go q h)
    where
      go : {x y : P} {t r : List P} → Brought T (y ∷ t) x r → (In name (name x) t → ⊥) → Rearranged T t r
      go first h = done
      go (later c q) h = absurd (h (in_cast (sym (keeps S c).0) (brought_in S q)))

  pub cancel : (a x y : List P) → Rearranged T (a ++ x) (a ++ y) → Distinct name (a ++ y) → Rearranged T x y
  cancel [] x y p d = p
  cancel (e ∷ a) x y p (next h d) = cancel a x y (cancel_one p h) d

  -- if a then x are c then y, the patches of c that a holds stand in front of c
  pub shared_front : (a x c y : List P) → Rearranged T (a ++ x) (c ++ y) → Distinct name (c ++ y) → Shared T name a c
  shared_front [] x c y p d = record { shared = []; rest = c; whole = done; fewer = λ n i. i; apart = λ n i j. elim j [ ] }
  shared_front (e ∷ a) x c y p d = let (_, w, k, o) = front_of S c y p in go k (stays_distinct S w d) o (shared_front a x)
    where
      go : {r : List P} → Rearranged T (a ++ x) r → Distinct name (e ∷ r) → Origin T c y e r
          → ((b z : List P) → Rearranged T (a ++ x) (b ++ z) → Distinct name (b ++ z) → Shared T name a b) → Shared T name (e ∷ a) c
      go k dr (inside {a = b} q h) ih =
          let s = ih b y (k ▷ h) (stays_distinct S h (distinct_tail dr)) in
          record {
            shared = e ∷ s.shared;
            rest = s.rest;
            whole = brought_rearranged q ▷ behind_one e s.whole;
            fewer = elim_head s;
            apart = λ n i j. s.apart n i (in_other j (λ z. distinct_head dr (in_cast (sym z) (was_in S h (in_left y (was_in S s.whole (in_right s.shared i)))))));
          }
        where
          elim_head : (s : Shared T name a b) (n : ℕ) → In name n (e ∷ s.shared) → In name n (e ∷ a)
          elim_head s n (in_head z) = in_head z
          elim_head s n (in_tail i) = in_tail (s.fewer n i)
      go k dr (beyond {a = b} {b = z} r q h) ih =
          let dbz = stays_distinct S h (distinct_tail dr) in
          let s = ih b z (k ▷ h) dbz in
          let (v, l, w) = rearrange_after S r s.whole in
          let (_, i, j, m, o, g) = row_split_after s.shared s.rest l in
          let out : (n : ℕ) → In name n j → In name n s.rest = λ n t. row_in S o t in
          record {
            shared = i;
            rest = j;
            whole = w ▷ equal g;
            fewer = λ n t. in_tail (s.fewer n (row_in S m t));
            apart = λ n t u. s.apart n (out n t) (in_other u (λ f. distinct_apart c y d n (was_in S (w ▷ equal g) (in_right i t)) (in_cast (sym (row_name S r) ∙ f) (brought_in S q))));
          }
