-- The last patch of a row, carried to its front.
use Rattle.std.proofs.Common.{◌≡◌, ℕ, ◌+◌, ◌-◌, ◌<◌, List, [], ◌∷◌, ◌++◌, length, get_or, set, Ok, Err, Result, sym, refl, ap, ◌∙◌, subst, append_assoc, arith, length-append}
use Rattle.std.proofs.lemmas.List.{get_or_at, set_at, append-nil}
use Rattle.kinds.specs.declared.answers.Clash.{Clash}
use Rattle.kinds.specs.Theory.{Theory}
use Rattle.kinds.specs.Bounded.{answer}
use Rattle.kinds.specs.Sequences.{and_then, answer_over}
use Rattle.kinds.proofs.Stepwise.{answer_over_more}
use Rattle.rows.specs.Pass.{Carried}

pub clash : {A : Type 0} {x : A} {c : Clash} → Err c ≡ Ok x → ⊥
clash e = let z : ◌≡◌ {A = ℕ} 0 1 = cc in omega arith

-- a row that is not empty has a last patch
last : {A : Type 0} (xs : List A) → 0 < length xs → (us : List A) × (p : A) × (xs ≡ us ++ p ∷ [])
last [] h = absurd (omega arith)
last (x ∷ []) h = ([], x, refl)
last (x ∷ y ∷ xs) h = let (us, p, e) = last (y ∷ xs) (omega arith) in (x ∷ us, p, ap (λ z. x ∷ z) e)

module _ {P F : Type 0} (T : Theory P F) where
  -- a row was tried, answered r, and holds rest
  abbrev pub Tried : List P → Result (Unit {0}) Clash → List P → Type 0
  Tried row r rest = (ps : List P) (q : P) → row ≡ ps ++ q ∷ [] → Carried (answer_over T ps q) r rest

  -- Of ps ++ q ∷ [], which is `row` now, q came over all but the first, and stands at the place n - 1.
  pub record Coming (ps : List P) (q : P) (row : List P) (n : ℕ) : Type 0 where
    pub front : List P
    pub over : List P
    pub came : P
    pub others : List P
    pub parts : ps ≡ front ++ over
    pub place : length front + 1 ≡ n
    pub same : answer_over T over q ≡ Ok (came, others)
    pub holds : row ≡ front ++ came ∷ others

  abbrev pub Comes : List P → List P → ℕ → Type 0
  Comes was row n = (ps : List P) (q : P) → was ≡ ps ++ q ∷ [] → Coming ps q row n

  pub at_first : (was : List P) → Comes was was (length was)
  at_first was ps q e = record {
    front = ps;
    over = [];
    came = q;
    others = [];
    parts = sym (append-nil ps);
    place = sym (length-append ps (q ∷ [])) ∙ sym (ap length e);
    same = refl;
    holds = e;
  }

  -- what is refused over the last ones is refused over all
  refused_over : (us vs : List P) (q : P) (c : Clash) → answer_over T vs q ≡ Err c → answer_over T (us ++ vs) q ≡ Err c
  refused_over [] vs q c e = e
  refused_over (u ∷ us) vs q c e = answer_over_more T u (us ++ vs) q ∙ ap (λ a. and_then a (λ s. and_then (answer T u s.0) (λ t. Ok (t.0, t.1 ∷ s.1)))) (refused_over us vs q c e)

  module _ (was row : List P) (n : ℕ) (comes : Comes was row n) where
    -- the next commute, of the two before the place n, answered b
    module _ (h : 1 < n) (x y : P) (b : Result (P × P) Clash) (x_is : x ≡ get_or row (n - 1 - 1) x) (y_is : y ≡ get_or row (n - 1) y) (is : b ≡ answer T x y) where
      -- of these, the front one
      abbrev Next : (ps : List P) (q : P) → Coming ps q row n → Type 0
      Next ps q a = (us : List P) × (p : P) × (a.front ≡ us ++ p ∷ []) × (length us ≡ n - 1 - 1) × (row ≡ us ++ p ∷ a.came ∷ a.others) × (b ≡ answer T p a.came)

      next : (ps : List P) (q : P) (a : Coming ps q row n) → Next ps q a
      next ps q a =
          let (us, p, e) = last a.front (let c = a.place in omega arith) in
          let l = ap length e ∙ length-append us (p ∷ []) in
          let c = a.place in
          let k : length us ≡ n - 1 - 1 = omega arith in
          let whole : row ≡ us ++ p ∷ a.came ∷ a.others = a.holds ∙ ap (λ z. z ++ a.came ∷ a.others) e ∙ append_assoc us (p ∷ []) (a.came ∷ a.others) in
          let f : x ≡ p = x_is ∙ ap (λ z. get_or z (n - 1 - 1) x) whole ∙ get_or_at us p (a.came ∷ a.others) x (n - 1 - 1) k in
          let g : y ≡ a.came = y_is ∙ ap (λ z. get_or z (n - 1) y) a.holds ∙ get_or_at a.front a.came a.others y (n - 1) (omega arith) in
          (us, p, e, k, whole, is ∙ ap (λ z. answer T z y) f ∙ ap (answer T p) g)

      over_one_more : (ps : List P) (q : P) (a : Coming ps q row n) (p : P) → answer_over T (p ∷ a.over) q ≡ and_then (answer T p a.came) (λ t. Ok (t.0, t.1 ∷ a.others))
      over_one_more ps q a p = answer_over_more T p a.over q ∙ ap (λ r. and_then r (λ s. and_then (answer T p s.0) (λ t. Ok (t.0, t.1 ∷ s.1)))) a.same

      pub stopped : (c : Clash) (left : List P) → b ≡ Err c → Tried was (Err c) left
      stopped c left z ps q e =
          let a = comes ps q e in
          let (us, p, f, k, whole, g) = next ps q a in
          let refused : answer_over T (p ∷ a.over) q ≡ Err c = over_one_more ps q a p ∙ ap (λ r. and_then r (λ t. Ok (t.0, t.1 ∷ a.others))) (sym g ∙ z) in
          let parts : ps ≡ us ++ p ∷ a.over = a.parts ∙ ap (λ z. z ++ a.over) f ∙ append_assoc us (p ∷ []) a.over in
          subst (λ r. Carried r (Err c) left) (sym (ap (λ z. answer_over T z q) parts ∙ refused_over us (p ∷ a.over) q c refused)) refl

      pub one_nearer : (t : P × P) → b ≡ Ok t → Comes was (set (set row (n - 1 - 1) t.0) (n - 1) t.1) (n - 1)
      one_nearer t z ps q e =
          let a = comes ps q e in
          let (us, p, f, k, whole, g) = next ps q a in
          record {
            front = us;
            over = p ∷ a.over;
            came = t.0;
            others = t.1 ∷ a.others;
            parts = a.parts ∙ ap (λ z. z ++ a.over) f ∙ append_assoc us (p ∷ []) a.over;
            place = omega arith;
            same = over_one_more ps q a p ∙ ap (λ r. and_then r (λ t. Ok (t.0, t.1 ∷ a.others))) (sym g ∙ z);
            holds = ap (λ z. set (set z (n - 1 - 1) t.0) (n - 1) t.1) whole ∙ ap (λ z. set z (n - 1) t.1) (set_at us p (a.came ∷ a.others) t.0 (n - 1 - 1) k)
                ∙ ap (λ z. set z (n - 1) t.1) (sym (append_assoc us (t.0 ∷ []) (a.came ∷ a.others)))
                ∙ set_at (us ++ t.0 ∷ []) a.came a.others t.1 (n - 1) (length-append us (t.0 ∷ []) ∙ omega arith) ∙ append_assoc us (t.0 ∷ []) (t.1 ∷ a.others);
          }
