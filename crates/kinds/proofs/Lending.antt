-- A layer lends the words of one part to the kind below: the part and what a write to it leaves, and the layer's outcome from the outcome below.
use Rattle.std.proofs.Common.{◌≡◌, ℕ, suc, ◌+◌, ◌-◌, ◌*◌, ◌<◌, ◌≤◌, Bool, true, false, cond, ◌&&◌, eqb, ltb, List, ◌++◌, length, take, drop, Ok, Err, Result, sym, refl, ap, ◌∙◌, ⊎_elim, true≢false, mul-le-mul_right, suc-mul, one-mul, arith, lt-ltb, eq-eqb}
use native.Mathlib.Nat.{min-eq_left, min-eq_right}
use borrow.Rule.Slice.PartMut.{put_mid}
use Rattle.std.specs.List.{between}
use Rattle.std.proofs.lemmas.List.{take_at, drop_at, take-take, drop-drop, drop-take}
use Rattle.std.proofs.lemmas.Slice.{take-put_mid_below, drop-put_mid}
use Rattle.std.proofs.lemmas.Bool.{and_parts, and_from, eqb-true, ltb-true, cases_lt, cases_order}
use Rattle.kinds.specs.declared.answers.Failure.{Failure}
use Rattle.kinds.specs.declared.answers.Failure.TheVariants.{Length, Overfull, Fault}
use Rattle.kinds.specs.Theory.{Theory}
use Rattle.kinds.specs.Bounded.{saturated, largest, done_or_fault, holding, roomy, Applied}
use Rattle.kinds.specs.Parts.{part, failing}
use Rattle.kinds.specs.Slots.{Around, words_of}

-- the middle part of a run, and what a write to it leaves
pub middle : (a m b : List ℕ) (n k : ℕ) → length a ≡ n → length m ≡ k → take k (drop n (a ++ (m ++ b))) ≡ m
middle a m b n k p q = rw (drop_at a (m ++ b) n p) (take_at m b k q)

pub put_middle : (a m b v : List ℕ) (n k : ℕ) → length a ≡ n → length m ≡ k → put_mid n k (a ++ (m ++ b)) v ≡ a ++ (v ++ b)
put_middle a m b v n k p q = rw (take_at a (m ++ b) n p, drop_at a (m ++ b) n p, drop_at m b k q)

pub put_around : (run v : List ℕ) (n k : ℕ) → n + k ≤ length run → length v ≡ k → Around n k run (put_mid n k run v)
put_around run v n k le l = (take-put_mid_below n k run v n (omega arith) (omega arith), drop-put_mid n k run v (n + k) (omega arith) (omega arith) l)

-- a number of words that is told as less than the largest is told as it is
pub told : (n k : ℕ) → k ≡ saturated n → k < largest → k ≡ n
told n k e l = ⊎_elim (λ h. e ∙ min-eq_left (omega arith)) (λ h. absurd (let m : saturated n ≡ largest = min-eq_right h in omega arith)) (cases_lt n largest)

-- one of n slots of w words ends where n slots end, or before
pub slot_end : (m n w : ℕ) → m < n → m * w + w ≤ n * w
slot_end m n w h = let k : suc m * w ≤ n * w = mul-le-mul_right w h in omega (arith, suc-mul m w)

-- The run has n slots of w words, where the number of all the words and w are told as `all` and `each`.
pub roomy_slots : (n w length all each : ℕ) → 0 < n → true ≡ eqb length all && ltb all largest → all ≡ saturated (n * w) → each ≡ saturated w
    → (length ≡ n * w) × (n * w < largest) × (each ≡ w)
roomy_slots n w length all each h r e f =
    let (a, b) = and_parts (eqb length all) (ltb all largest) (sym r) in
    let a' = eqb-true length all a in
    let b' = ltb-true all largest b in
    let t = told (n * w) all e b' in
    let k : 1 * w ≤ n * w = mul-le-mul_right w h in
    (a' ∙ t, omega arith, f ∙ min-eq_left (omega (arith, one-mul w)))

-- an outcome put into its place
place : {D E F G : Type 0} → (D → E) → (F → G) → Result D (Failure F) → Result E (Failure G)
place f g (Ok d) = Ok (f d)
place f g (Err Length) = Err Length
place f g (Err Overfull) = Err Overfull
place f g (Err (Fault x)) = Err (Fault (g x))

outcome_place : {D E F G : Type 0} (f : D → E) (g : F → G) (b : Bool) (r : Result D F)
    → cond b (Err Overfull) (done_or_fault (part f g r)) ≡ place f g (cond b (Err Overfull) (done_or_fault r))
unfolding place
outcome_place f g true r = refl
outcome_place f g false (Ok d) = refl
outcome_place f g false (Err x) = refl

holding_place : {D E F G : Type 0} (f : D → E) (g : F → G) (r : Result (Unit {0}) (Failure F)) (d : D) → holding (failing g r) (f d) ≡ place f g (holding r d)
unfolding place
holding_place f g (Ok u) d = refl
holding_place f g (Err Length) d = refl
holding_place f g (Err Overfull) d = refl
holding_place f g (Err (Fault x)) d = refl

-- The layer's outcome is that of the kind below, put into its place.
pub placed_outcome : {D E F G : Type 0} (f : D → E) (g : F → G) (b : Bool) (q : Result D F) (r : Result (Unit {0}) (Failure F)) (d : D)
    → cond b (Err Overfull) (done_or_fault q) ≡ holding r d → cond b (Err Overfull) (done_or_fault (part f g q)) ≡ holding (failing g r) (f d)
placed_outcome f g b q r d h = outcome_place f g b q ∙ ap (place f g) h ∙ sym (holding_place f g r d)

-- a wider part around it
pub around_wider : (n k m j : ℕ) (was left : List ℕ) → m ≤ n → n + k ≤ m + j → Around n k was left → Around m j was left
around_wider n k m j was left p q (a, b) = (front left ∙ ap (take m) a ∙ sym (front was), rest left ∙ ap (drop (m + j - (n + k))) b ∙ sym (rest was))
  where
    front : (v : List ℕ) → take m v ≡ take m (take n v)
    front v = sym (take-take m n v p)

    rest : (v : List ℕ) → drop (m + j) v ≡ drop (m + j - (n + k)) (drop (n + k) v)
    rest v = ap (λ i. drop i v) (let e : m + j ≡ n + k + (m + j - (n + k)) = omega arith in e) ∙ sym (drop-drop (m + j - (n + k)) (n + k) v)

-- the words of another slot are as they were
pub other_words : (w m n : ℕ) (was left : List ℕ) → Around (m * w) w was left → (n ≡ m → ⊥) → words_of w n left ≡ words_of w n was
other_words w m n was left (a, b) ne = ⊎_elim (λ e. absurd (ne e)) (⊎_elim below above) (cases_order n m)
  where
    below : n < m → words_of w n left ≡ words_of w n was
    below h = front left ∙ ap (λ v. drop (n * w) (take (n * w + w) v)) a ∙ sym (front was)
      where
        front : (v : List ℕ) → words_of w n v ≡ drop (n * w) (take (n * w + w) (take (m * w) v))
        front v = sym (drop-take (n * w) w v) ∙ ap (drop (n * w)) (sym (take-take (n * w + w) (m * w) v (slot_end n m w h)))

    above : m < n → words_of w n left ≡ words_of w n was
    above h = ap (take w) (rest left ∙ ap (drop (n * w - (m * w + w))) b ∙ sym (rest was))
      where
        rest : (v : List ℕ) → drop (n * w) v ≡ drop (n * w - (m * w + w)) (drop (m * w + w) v)
        rest v = ap (λ i. drop i v) (let k = slot_end m n w h in let e : n * w ≡ m * w + w + (n * w - (m * w + w)) = omega arith in e)
            ∙ sym (drop-drop (n * w - (m * w + w)) (m * w + w) v)

-- what a run has room for
pub room_width : {P F : Type 0} (T : Theory P F) (n : ℕ) → roomy T n ≡ true → (n ≡ T.width) × (T.width < largest)
room_width T n h = let s = and_parts (eqb n T.width) (ltb T.width largest) h in (eqb-true _ _ s.0, ltb-true _ _ s.1)

pub width_room : {P F : Type 0} (T : Theory P F) (n : ℕ) → n ≡ T.width → T.width < largest → roomy T n ≡ true
width_room T n e h = and_from _ _ (eq-eqb n T.width e) (lt-ltb T.width largest h)

module _ {P Q F G : Type 0} (S : Theory Q G) (K : Theory P F) where
  -- q of the layer is p of the kind below, on the part of d whose words stand between before and behind
  pub record OnPart (q : Q) (p : P) (d : S.Doc) (add : F → G) (at : ℕ) : Type 0 where
    pub inner : K.Doc
    pub put : K.Doc → S.Doc
    pub before : List ℕ
    pub behind : List ℕ
    pub starts : length before ≡ at
    pub inner_fits : K.fits inner
    pub words : S.encode d ≡ before ++ (K.encode inner ++ behind)
    pub put_fits : (e : K.Doc) → K.fits e → S.fits (put e)
    pub put_words : (e : K.Doc) → K.fits e → S.encode (put e) ≡ before ++ (K.encode e ++ behind)
    pub full_is : S.full q d ≡ K.full p inner
    pub apply_is : S.apply q d ≡ part put add (K.apply p inner)

  module _ (filled : (d : K.Doc) → K.fits d → length (K.encode d) ≡ K.width) (q : Q) (p : P) (add : F → G) (at end : ℕ) (was : List ℕ)
      (room : roomy S (length was) ≡ true) (wide : K.width < largest) (spans : end - at ≡ K.width)
      (on-part : (d : S.Doc) → S.fits d → was ≡ S.encode d → OnPart q p d add at) where
    pub part_applied : (s : Result (Unit {0}) (Failure F)) (mid : List ℕ) → Applied K p (between at end was) s mid → Applied S q was (failing add s) (put_mid at (end - at) was mid)
    part_applied s mid h = record {
      refused = λ no. absurd (true≢false (sym room ∙ no));
      done = λ d fits is _.
          let o = on-part d fits is in
          let long : length (K.encode o.inner) ≡ end - at = filled o.inner o.inner_fits ∙ sym spans in
          let whole : was ≡ o.before ++ (K.encode o.inner ++ o.behind) = is ∙ o.words in
          let here : between at end was ≡ K.encode o.inner = ap (between at end) whole ∙ middle o.before (K.encode o.inner) o.behind at (end - at) o.starts long in
          let t = h.done o.inner o.inner_fits here (width_room K _ (ap length here ∙ filled o.inner o.inner_fits) wide) in (
            o.put t.0,
            o.put_fits t.0 t.1,
            ap (λ w. put_mid at (end - at) w mid) whole ∙ put_middle o.before (K.encode o.inner) o.behind mid at (end - at) o.starts long
                ∙ ap (λ m. o.before ++ (m ++ o.behind)) t.2 ∙ sym (o.put_words t.0 t.1),
            ap (λ b. cond b (Err Overfull) (done_or_fault (S.apply q d))) o.full_is ∙ ap (λ x. cond (K.full p o.inner) (Err Overfull) (done_or_fault x)) o.apply_is
                ∙ placed_outcome o.put add (K.full p o.inner) (K.apply p o.inner) s t.0 t.3,
          );
    }
