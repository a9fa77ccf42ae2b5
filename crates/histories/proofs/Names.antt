-- The names that a history holds.
use Rattle.std.proofs.Common.{◌≡◌, ℕ, Bool, true, false, cond, eqb, ◌⊎◌, List, [], ◌∷◌, ◌++◌, length, Some, None, sym, refl, ap, ◌∙◌, inl, inr, ⊎_elim, arith, length-append}
use Rattle.std.proofs.lemmas.Bool.{eqb-true, eq-eqb, or_cases, or_left, or_right, true≢false}
use Rattle.histories.specs.History.{holds, missing}

module _ {P : Type 0} (name : P → ℕ) where
  -- the list holds the name n
  pub data In (n : ℕ) : List P → Type 0 where
    in_head : {x : P} {s : List P} → name x ≡ n → In n (x ∷ s)
    in_tail : {x : P} {s : List P} → In n s → In n (x ∷ s)

  -- no name is there twice
  pub data Distinct : List P → Type 0 where
    none : Distinct []
    next : {x : P} {s : List P} → (In (name x) s → ⊥) → Distinct s → Distinct (x ∷ s)

  abbrev pub Disjoint : List P → List P → Type 0
  Disjoint s t = (n : ℕ) → In n s → In n t → ⊥

  -- every name of s is one of t
  abbrev pub Sub : List P → List P → Type 0
  Sub s t = (n : ℕ) → In n s → In n t

module _ {P : Type 0} {name : P → ℕ} where
  pub in_cast : {m n : ℕ} {s : List P} → m ≡ n → In name m s → In name n s
  in_cast e (in_head h) = in_head (h ∙ e)
  in_cast e (in_tail i) = in_tail (in_cast e i)

  pub in_left : {n : ℕ} {s : List P} (t : List P) → In name n s → In name n (s ++ t)
  in_left t (in_head e) = in_head e
  in_left t (in_tail i) = in_tail (in_left t i)

  pub in_right : {n : ℕ} (s : List P) {t : List P} → In name n t → In name n (s ++ t)
  in_right [] i = i
  in_right (x ∷ s) i = in_tail (in_right s i)

  in_cons : {n : ℕ} {x : P} {s t : List P} → In name n s ⊎ In name n t → In name n (x ∷ s) ⊎ In name n t
  in_cons (inl i) = inl (in_tail i)
  in_cons (inr i) = inr i

  pub in_split : {n : ℕ} (s : List P) {t : List P} → In name n (s ++ t) → In name n s ⊎ In name n t
  in_split [] i = inr i
  in_split (x ∷ s) (in_head e) = inl (in_head e)
  in_split (x ∷ s) (in_tail i) = in_cons (in_split s i)

  pub in_other : {n : ℕ} {x : P} {s : List P} → In name n (x ∷ s) → (name x ≡ n → ⊥) → In name n s
  in_other (in_head e) h = absurd (h e)
  in_other (in_tail i) h = i

  pub single : {n : ℕ} {x : P} → In name n (x ∷ []) → name x ≡ n
  single (in_head e) = e
  single (in_tail i) = elim i [ ]

  pub no_names : (s : List P) → ((n : ℕ) → In name n s → ⊥) → s ≡ []
  no_names [] h = refl
  no_names (x ∷ s) h = absurd (h (name x) (in_head refl))

  -- the patch of a name, with what stands before it and after it
  pub in_find : {n : ℕ} {s : List P} → In name n s → (a : List P) × (x : P) × (b : List P) × (s ≡ a ++ x ∷ b) × (name x ≡ n)
  in_find (in_head e) = ([], _, _, refl, e)
  in_find (in_tail {x = x} i) = let (a, y, b, e, k) = in_find i in (x ∷ a, y, b, ap (λ z. x ∷ z) e, k)

  -- distinct names
  pub distinct_head : {x : P} {s : List P} → Distinct name (x ∷ s) → In name (name x) s → ⊥
  distinct_head (next h d) i = h i

  pub distinct_tail : {x : P} {s : List P} → Distinct name (x ∷ s) → Distinct name s
  distinct_tail (next h d) = d

  pub distinct_left : (s t : List P) → Distinct name (s ++ t) → Distinct name s
  distinct_left [] t d = none
  distinct_left (x ∷ s) t (next h d) = next (λ i. h (in_left t i)) (distinct_left s t d)

  pub distinct_right : (s : List P) {t : List P} → Distinct name (s ++ t) → Distinct name t
  distinct_right [] d = d
  distinct_right (x ∷ s) (next h d) = distinct_right s d

  pub distinct_apart : (s t : List P) → Distinct name (s ++ t) → Disjoint name s t
  distinct_apart [] t d n i j = elim i [ ]
  distinct_apart (x ∷ s) t (next h d) n (in_head e) j = h (in_right s (in_cast (sym e) j))
  distinct_apart (x ∷ s) t (next h d) n (in_tail i) j = distinct_apart s t d n i j

  -- one more at the end
  pub apart_more : {u : P} (x y : List P) → Disjoint name x y → (In name (name u) y → ⊥) → Disjoint name (x ++ u ∷ []) y
  apart_more x y d h n i j = ⊎_elim (λ k. d n k j) (λ k. h (in_cast (sym (single k)) j)) (in_split x i)

  pub distinct_more : (s : List P) (u : P) → Distinct name s → (In name (name u) s → ⊥) → Distinct name (s ++ u ∷ [])
  distinct_more [] u d h = next (λ i. elim i [ ]) none
  distinct_more (x ∷ s) u (next k d) h = next (λ i. ⊎_elim k (λ j. h (in_head (sym (single j)))) (in_split s i)) (distinct_more s u d (λ i. h (in_tail i)))

  -- the test, and what it tells
  pub in_of_holds : (n : ℕ) (s : List P) → holds name s n ≡ true → In name n s
  in_of_holds n [] e = absurd (true≢false (sym e))
  in_of_holds n (x ∷ s) e = ⊎_elim (λ h. in_head (eqb-true (name x) n h)) (λ h. in_tail (in_of_holds n s h)) (or_cases _ _ e)

  pub holds_of_in : {n : ℕ} {s : List P} → In name n s → holds name s n ≡ true
  holds_of_in {n} (in_head {x = x} {s = s} e) = or_left (eqb (name x) n) (holds name s n) (eq-eqb (name x) n e)
  holds_of_in {n} (in_tail {x = x} {s = s} i) = or_right (eqb (name x) n) (holds name s n) (holds_of_in i)

  pub not_in : (n : ℕ) (s : List P) → holds name s n ≡ false → In name n s → ⊥
  not_in n s e i = true≢false (sym (holds_of_in i) ∙ e)

  pub dec_in : (n : ℕ) (s : List P) → Dec (In name n s)
  dec_in n s = go (holds name s n) refl
    where
      go : (b : Bool) → holds name s n ≡ b → Dec (In name n s)
      go true e = yes (in_of_holds n s e)
      go false e = no (not_in n s e)

  pub all_held : (ws h : List P) → missing name ws h ≡ None → Sub name ws h
  all_held [] h e n i = elim i [ ]
  all_held (w ∷ ws) h e n i = go (holds name h (name w)) refl e i (all_held ws h)
    where
      go : (b : Bool) → holds name h (name w) ≡ b → cond b (missing name ws h) (Some w) ≡ None → In name n (w ∷ ws)
          → (missing name ws h ≡ None → Sub name ws h) → In name n h
      go true k l (in_head f) ih = in_cast f (in_of_holds (name w) h k)
      go true k l (in_tail j) ih = ih l n j
      go false k l j ih = absurd (let z : ◌≡◌ {A = ℕ} 0 1 = cc in omega arith)

  pub not_held : (n : ℕ) (s : List P) → (In name n s → ⊥) → holds name s n ≡ false
  not_held n s h = go (holds name s n) refl
    where
      go : (b : Bool) → holds name s n ≡ b → holds name s n ≡ false
      go true e = absurd (h (in_of_holds n s e))
      go false e = e

  -- a name stands in one place
  pub in_one_place : (ps : List P) (p : P) (qs : List P) → Distinct name (ps ++ p ∷ qs) → In name (name p) (ps ++ qs) → ⊥
  in_one_place ps p qs d i = ⊎_elim (λ j. distinct_apart ps (p ∷ qs) d (name p) j (in_head refl)) (λ j. distinct_head (distinct_right ps d) j) (in_split ps i)

  -- a patch with the name of the last one is the last one
  pub the_last : (h : List P) (z : P) (ps : List P) (p : P) (qs : List P) → Distinct name (h ++ z ∷ []) → h ++ z ∷ [] ≡ ps ++ p ∷ qs → name p ≡ name z → (h ≡ ps) × (z ≡ p) × ([] ≡ qs)
  the_last [] z [] p qs d e k = (refl, cc, cc)
  the_last [] z (y ∷ ps) p qs d e k = absurd (let l = ap length e in let m = length-append ps (p ∷ qs) in omega arith)
  the_last (x ∷ h) z [] p qs d e k = let a : p ≡ x = cc in absurd (distinct_head d (in_right h (in_head (sym k ∙ ap name a))))
  the_last (x ∷ h) z (y ∷ ps) p qs d e k =
      let a : x ≡ y = cc in
      let b : h ++ z ∷ [] ≡ ps ++ p ∷ qs = cc in
      let (i, j, l) = the_last h z ps p qs (distinct_tail d) b k in
      (cc, j, l)
