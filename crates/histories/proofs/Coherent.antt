-- Histories of which each is a common part and then patches that the other lacks.
use Rattle.std.proofs.Common.{◌≡◌, ℕ, ◌⊎◌, List, [], ◌∷◌, ◌++◌, sym, refl, ap, ◌∙◌, subst, inl, inr, append-nil}
use Rattle.kinds.specs.Theory.{Theory}
use Rattle.kinds.proofs.Grids.{Row}
use Rattle.histories.specs.History.{Rearranged}
use Rattle.histories.proofs.Setting.{Setting}
use Rattle.histories.proofs.Names.{In, in_head, in_tail, Distinct, Disjoint, Sub, in_cast, in_left, in_right, in_split, in_find, single, no_names, dec_in, distinct_right, distinct_apart, apart_more}
use Rattle.histories.proofs.Rearranging.{◌▷◌, before, behind, equal, to_left, to_right, reversed, stays_in, was_in, stays_distinct}
use Rattle.histories.proofs.Passing.{row_rearranged, row_split, row_split_after, row_name, row_in, row_out, rearrange_before, rearrange_after, row_one}
use Rattle.histories.proofs.Fronts.{Origin, inside, beyond, brought_rearranged, brought_one, brought_in, front_of}
use Rattle.histories.proofs.Prefixes.{Rest, sub_front, sub_front_names, cancel}
use Rattle.histories.proofs.Minimal.{Minimal, depends_in}

pub record Coherent {P F : Type 0} (T : Theory P F) (name : P → ℕ) (a b : List P) : Type 0 where
  pub common : List P
  pub mine : List P
  pub yours : List P
  pub left : Rearranged T a (common ++ mine)
  pub right : Rearranged T b (common ++ yours)
  pub apart : Disjoint name mine yours

-- what is last in a then u, and is named in c, where c then x are the same: it is last in c
record Last {P F : Type 0} (T : Theory P F) (name : P → ℕ) (c x a : List P) (u : P) : Type 0 where
  init : List P
  last : P
  others : List P
  whole : Rearranged T c (init ++ last ∷ [])
  rest : Rearranged T a (init ++ others)
  kept : Sub name others x

module _ {P F : Type 0} {T : Theory P F} {name : P → ℕ} where
  pub coherent_sym : {a b : List P} → Coherent T name a b → Coherent T name b a
  coherent_sym c = record { common = c.common; mine = c.yours; yours = c.mine; left = c.right; right = c.left; apart = λ n i j. c.apart n j i }

  pub coherent_refl : (a : List P) → Coherent T name a a
  coherent_refl a =
      let p = equal (sym (append-nil a)) in
      record { common = a; mine = []; yours = []; left = p; right = p; apart = λ n i j. elim i [ ] }

module _ {P F : Type 0} {T : Theory P F} {name : P → ℕ} (S : Setting T name) where
  -- a new name at the end
  pub add_new : {a b : List P} (u : P) → Coherent T name a b → (In name (name u) b → ⊥) → Coherent T name (a ++ u ∷ []) b
  add_new u c h = record {
    common = c.common;
    mine = c.mine ++ u ∷ [];
    yours = c.yours;
    left = before (u ∷ []) c.left ▷ to_right c.common c.mine (u ∷ []);
    right = c.right;
    apart = apart_more c.mine c.yours c.apart (λ i. h (was_in S c.right (in_right c.common i)));
  }

  -- one that is last, dropped
  last_in : (c x a : List P) (u : P) → Distinct name (a ++ u ∷ []) → Rearranged T (c ++ x) (a ++ u ∷ []) → In name (name u) c → Last T name c x a u
  last_in c x a u d p i = let (s, e, t, g, k) = in_find i in at_cut s e t g k
    where
      at : (s : List P) (e : P) (t : List P) → name e ≡ name u → Rearranged T (s ++ e ∷ (t ++ x)) (a ++ u ∷ []) → Last T name (s ++ e ∷ t) x a u
      at s e t k w =
          let ds = stays_distinct S (reversed S w) d in
          let f = sub_front S s (e ∷ (t ++ x)) a (u ∷ []) w (λ n i j. distinct_apart s (e ∷ (t ++ x)) ds n i (in_head (k ∙ single j))) in
          let (_, _, v, o) = front_of S f.rest (u ∷ []) (reversed S f.after) in
          go f.rest f.whole (stays_distinct S (reversed S f.after) (distinct_right s ds)) v o
        where
          go : (b : List P) {r : List P} → Rearranged T a (s ++ b) → Distinct name (b ++ u ∷ []) → Rearranged T (t ++ x) r → Origin T b (u ∷ []) e r → Last T name (s ++ e ∷ t) x a u
          go b w db v (inside q h) = absurd (distinct_apart b (u ∷ []) db (name u) (in_cast k (brought_in S q)) (in_head refl))
          go b w db v (beyond {a = i} q l h) =
              let (_, z, g) = rearrange_after S q (reversed S (v ▷ h ▷ equal (ap (λ o. i ++ o) (brought_one l).1 ∙ append-nil i))) in
              let (y, a1, b1, m, o, f) = row_split_after t x z in
              record {
                init = s ++ a1;
                last = y;
                others = b1;
                whole = behind s (reversed S (row_rearranged m)) ▷ to_left s a1 (y ∷ []);
                rest = w ▷ behind s (g ▷ equal f) ▷ to_left s a1 b1;
                kept = λ n j. row_in S o j;
              }

      at_cut : (s : List P) (e : P) (t : List P) → c ≡ s ++ e ∷ t → name e ≡ name u → Last T name c x a u
      at_cut s e t h k =
          let Q : List P → Type 0 = λ z. Rearranged T (z ++ x) (a ++ u ∷ []) → Last T name z x a u in
          subst Q (sym h) (λ w. at s e t k (to_left s (e ∷ t) x ▷ w)) p

  drop_common : {a b : List P} (a1 : List P) (u : P) (c : Coherent T name a b) → Distinct name a → Last T name c.common c.mine a1 u → Coherent T name a1 b
  drop_common a1 u c d l = record {
    common = l.init;
    mine = l.others;
    yours = l.last ∷ c.yours;
    left = l.rest;
    right = c.right ▷ before c.yours l.whole ▷ to_right l.init (l.last ∷ []) c.yours;
    apart = go;
  }
    where
      go : Disjoint name l.others (l.last ∷ c.yours)
      go n i (in_head e) = distinct_apart c.common c.mine (stays_distinct S c.left d) n (was_in S l.whole (in_right l.init (in_head e))) (l.kept n i)
      go n i (in_tail j) = c.apart n (l.kept n i) j

  drop_mine : {a b : List P} (a1 : List P) (u : P) (c : Coherent T name a b) → Rest T c.common c.mine a1 (u ∷ []) → Coherent T name a1 b
  drop_mine a1 u c r = record {
    common = c.common;
    mine = r.rest;
    yours = c.yours;
    left = r.whole;
    right = c.right;
    apart = λ n i j. c.apart n (stays_in S r.after (in_left (u ∷ []) i)) j;
  }

  pub drop_last : {a b : List P} (a1 : List P) (u : P) → Distinct name a → Rearranged T a (a1 ++ u ∷ []) → Coherent T name a b → Coherent T name a1 b
  drop_last {a} {b} a1 u d p c = go (reversed S c.left ▷ p) (dec_in (name u) c.common)
    where
      go : Rearranged T (c.common ++ c.mine) (a1 ++ u ∷ []) → Dec (In name (name u) c.common) → Coherent T name a1 b
      go q (yes i) = drop_common a1 u c d (last_in c.common c.mine a1 u (stays_distinct S p d) q i)
      go q (no h) = drop_mine a1 u c (sub_front S c.common c.mine a1 (u ∷ []) q (λ n i j. h (in_cast (sym (single j)) i)))

  -- names that both hold are those of the common part
  in_common : {a b : List P} {n : ℕ} (c : Coherent T name a b) → In name n a → In name n b → In name n c.common
  in_common {n = n} c i j = go (in_split c.common (stays_in S c.left i)) (in_split c.common (stays_in S c.right j))
    where
      go : In name n c.common ⊎ In name n c.mine → In name n c.common ⊎ In name n c.yours → In name n c.common
      go (inl k) l = k
      go (inr k) (inl l) = l
      go (inr k) (inr l) = absurd (c.apart n k l)

  -- the first patches of a, if b holds their names too, are the first patches of the common part ...
  common_front : {a b : List P} (c : Coherent T name a b) (w x : List P) → Distinct name a → Rearranged T a (w ++ x) → Sub name w b → Rest T w x c.common c.mine
  common_front c w x d p f =
      sub_front_names S w x c.common c.mine (reversed S p ▷ c.left) (stays_distinct S c.left d) (λ n i. in_common c (was_in S p (in_left x i)) (f n i))

  -- ... and so of b
  pub held_front : {a b : List P} (c : Coherent T name a b) (w x : List P) → Distinct name a → Rearranged T a (w ++ x) → Sub name w b → (k : List P) × Rearranged T b (w ++ k)
  held_front c w x d p f =
      let r = common_front c w x d p f in
      (r.rest ++ c.yours, c.right ▷ before c.yours r.whole ▷ to_right w r.rest c.yours)

  -- who holds n has all that n depends on, and then n, in front
  pub block_front : {g r : List P} (c : Coherent T name g r) (w : List P) (n : P) (m : List P) → Distinct name g → Rearranged T g (w ++ n ∷ m) → Minimal T w n → In name (name n) r
      → (o : List P) × Rearranged T r (w ++ n ∷ o)
  block_front c w n m d p t i =
      let f = depends_in S w n m c.common c.mine t (stays_distinct S c.left d) (reversed S p ▷ c.left) (in_common c (was_in S p (in_right w (in_head refl))) i) in
      let (k, q) = held_front c (w ++ n ∷ []) m d (p ▷ to_left w (n ∷ []) m) (λ l j. was_in S c.right (in_left c.yours (f l j))) in
      (k, q ▷ to_right w (n ∷ []) k)

  -- n is pulled to the end of t, behind w and then k, as n'; r holds n behind w
  pull_known : {t r : List P} (c : Coherent T name t r) (w : List P) (n : P) (k o : List P) (n' : P) {k' : List P} → Distinct name t → Distinct name r
      → Rearranged T t (w ++ k) → Rearranged T r (w ++ n ∷ o) → (In name (name n) t → ⊥) → Row T k n' n k' → Coherent T name (t ++ n' ∷ []) r
  pull_known {t} {r} c w n k o n' dt dr p q h l =
      let f = common_front c w k dt p (λ z i. was_in S q (in_left (n ∷ o) i)) in
      let (_, x, _) = rearrange_before S l (reversed S f.after) in
      let (_, _, _, u, v) = row_split f.rest c.mine x in
      go f.rest f.whole u v
    where
      go : (m : List P) → Rearranged T c.common (w ++ m) → {y : P} {a b : List P} → Row T m y n a → Row T c.mine n' y b → Coherent T name (t ++ n' ∷ []) r
      go m e {y} {a} {b} u v = let (_, _, _, g) = front_of S m c.yours close in by_origin g
        where
          whole : Rearranged T r (w ++ (m ++ c.yours))
          whole = c.right ▷ before c.yours e ▷ to_right w m c.yours

          close : Rearranged T (n ∷ o) (m ++ c.yours)
          close = cancel S w (n ∷ o) (m ++ c.yours) (reversed S q ▷ whole) (stays_distinct S whole dr)

          met : {d : List P} → Rearranged T c.yours (y ∷ d) → Coherent T name (t ++ n' ∷ []) r
          met {d} i = record {
            common = c.common ++ y ∷ [];
            mine = b;
            yours = d;
            left = before (n' ∷ []) c.left ▷ to_right c.common c.mine (n' ∷ []) ▷ behind c.common (row_rearranged v) ▷ to_left c.common (y ∷ []) b;
            right = c.right ▷ behind c.common i ▷ to_left c.common (y ∷ []) d;
            apart = λ z j k. c.apart z (row_out S v j) (was_in S i (in_tail k));
          }

          by_origin : {z : List P} → Origin T m c.yours n z → Coherent T name (t ++ n' ∷ []) r
          by_origin (inside g x) = absurd (h (was_in S c.left (in_left c.mine (was_in S e (in_right w (brought_in S g))))))
          by_origin (beyond {b = d} g i x) = met (subst (λ z. Rearranged T c.yours (z ∷ d)) (sym (row_one S refl u g)) (brought_rearranged i))

  -- n of g, with all that it depends on, w, in front, is pulled to the end of t
  pub add_pulled : {t g r : List P} (w : List P) (n : P) (m k : List P) (n' : P) {k' : List P} → Distinct name t → Distinct name g → Distinct name r
      → Coherent T name t r → Coherent T name g r → Rearranged T g (w ++ n ∷ m) → Minimal T w n → Rearranged T t (w ++ k) → (In name (name n) t → ⊥)
      → Row T k n' n k' → Coherent T name (t ++ n' ∷ []) r
  add_pulled {t} {g} {r} w n m k n' dt dg dr tr gr p min q h l = go (dec_in (name n) r)
    where
      go : Dec (In name (name n) r) → Coherent T name (t ++ n' ∷ []) r
      go (no z) = add_new n' tr (λ i. z (in_cast (sym (row_name S l)) i))
      go (yes z) = let (o, x) = block_front gr w n m dg p min z in pull_known tr w n k o n' dt dr q x h l

  -- the same names: the same patches
  nothing_more : {a b : List P} (c : Coherent T name a b) → Distinct name a → Sub name a b → c.mine ≡ []
  nothing_more c d f =
      no_names c.mine (λ n i.
      let j = was_in S c.left (in_right c.common i) in
      distinct_apart c.common c.mine (stays_distinct S c.left d) n (in_common c j (f n j)) i)

  pub same_names : {a b : List P} → Coherent T name a b → Distinct name a → Distinct name b → Sub name a b → Sub name b a → Rearranged T a b
  unfolding coherent_sym
  same_names c da db f g =
      c.left ▷ equal (ap (λ z. c.common ++ z) (nothing_more c da f ∙ sym (nothing_more (coherent_sym c) db g))) ▷ reversed S c.right
