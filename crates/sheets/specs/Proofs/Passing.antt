-- How changes commute, as a relation: operations with operations, operations with insides, and insides with insides.
use Rattle.std.proofs.Common.{◌≡◌, ℕ, Bool, true, false, cond, ◌||◌, eqb, Some, None, Decides, Option, sym, refl, ap, ◌∙◌, subst, ap₂, inl, inr, ⊎_elim}
use Rattle.std.proofs.lemmas.Bool.{eqb-true, eq-eqb, cases_Bool, or_right}
use Rattle.std.proofs.lemmas.Bool.Decides.{Decides-eqb, Decides-or, Decides-like, not_from_Decides}
use Rattle.kinds.specs.Theory.{Theory}
use Rattle.kinds.specs.Laws.{Commutes, Lawful}
use Rattle.kinds.specs.Parts.{both}
use Rattle.kinds.proofs.Cases.{none_some}
use Rattle.kinds.proofs.Parts.{pair_of, both_some}
use Rattle.kinds.proofs.Placed.{Placed, one, apart, placed_back, placed_turn, placed_three, placed_elsewhere}
use Rattle.sheets.specs.declared.Sheet.{Sheet}
use Rattle.sheets.specs.declared.SheetChange.TheVariants.{the_data as SheetChange, Create, Remove, Move, Inside}
use Rattle.sheets.specs.Sheets.{same_sheet, touches, share, sharing_commute, sheet_commute, sheet_invert, sheets}
use Rattle.sheets.specs.Proofs.Places.{Op, create, remove, move, turned, Of, Disjoint, of_turned, Carries, stays, moved, carries_back, carries_forth, carries_one, carries_apart}

-- a change: an operation, or a patch in a place
pub data Change (P : Type 0) : Type 0 where
  op : Op → Change P
  inside : ℕ → P → Change P

abbrev sheet : ℕ → Sheet
sheet n = record { 0 = n }

-- a change as one of the code, and back
abbrev pub coded : {P : Type 0} → Change P → SheetChange P
coded (op (create a)) = Create (sheet a)
coded (op (remove a)) = Remove (sheet a)
coded (op (move a b)) = Move (sheet a) (sheet b)
coded (inside a p) = Inside (sheet a) p

abbrev pub read : {P : Type 0} → SheetChange P → Change P
read (Create a) = op (create a.0)
read (Remove a) = op (remove a.0)
read (Move a b) = op (move a.0 b.0)
read (Inside a p) = inside a.0 p

pub coded_read : {P : Type 0} (c : SheetChange P) → coded (read c) ≡ c
coded_read (Create a) = refl
coded_read (Remove a) = refl
coded_read (Move a b) = refl
coded_read (Inside a p) = refl

pub read_coded : {P : Type 0} (c : Change P) → read (coded c) ≡ c
read_coded (op (create a)) = refl
read_coded (op (remove a)) = refl
read_coded (op (move a b)) = refl
read_coded (inside a p) = refl

-- The change is of the place x.
abbrev pub Touched : {P : Type 0} → Change P → ℕ → Type 0
Touched (op o) x = Of o x
Touched (inside a p) x = a ≡ x

abbrev pub Unshared : {P : Type 0} → Change P → Change P → Type 0
Unshared c d = (x : ℕ) → Touched c x → Touched d x → ⊥

touches_tells : {P : Type 0} (c : SheetChange P) (x : Sheet) → Decides (touches c x) (Touched (read c) x.0)
touches_tells (Create a) x = Decides-eqb a.0 x.0
touches_tells (Remove a) x = Decides-eqb a.0 x.0
touches_tells (Move a b) x = Decides-or _ _ (Decides-eqb a.0 x.0) (Decides-eqb b.0 x.0)
touches_tells (Inside a p) x = Decides-eqb a.0 x.0

abbrev Shared : {P : Type 0} → SheetChange P → SheetChange P → Type 0
Shared c d = (x : ℕ) × Touched (read c) x × Touched (read d) x

-- a change that is of a alone
alone : {P : Type 0} (d : SheetChange P) (a : Sheet) → Decides (touches d a) ((x : ℕ) × (a.0 ≡ x) × Touched (read d) x)
alone d a = Decides-like _ (λ t. (a.0, refl, t)) (λ s. subst (Touched (read d)) (sym s.1) s.2) (touches_tells d a)

share_tells : {P : Type 0} (c d : SheetChange P) → Decides (share c d) (Shared c d)
share_tells (Create a) d = alone d a
share_tells (Remove a) d = alone d a
share_tells (Move a b) d = Decides-like _
    (⊎_elim (λ s. (s.0, inl s.1, s.2)) (λ s. (s.0, inr s.1, s.2)))
    (λ s. ⊎_elim (λ e. inl (s.0, e, s.2)) (λ e. inr (s.0, e, s.2)) s.1)
    (Decides-or _ _ (alone d a) (alone d b))
share_tells (Inside a p) d = alone d a

pub unshared_from : {P : Type 0} (c d : SheetChange P) → share c d ≡ false → Unshared (read c) (read d)
unshared_from c d e x i j = not_from_Decides (share c d) (share_tells c d) e (x, i, j)

pub share_false : {P : Type 0} (c d : SheetChange P) → Unshared (read c) (read d) → share c d ≡ false
share_false c d n = ⊎_elim (λ e. let s = (share_tells c d).0 e in absurd (n s.0 s.1 s.2)) (λ e. e) (cases_Bool (share c d))

answered : {A : Type 0} {x y : A} (b : Bool) → cond b (Some x) None ≡ Some y → (b ≡ true) × (Some x ≡ Some y)
answered true e = (refl, e)
answered false e = none_some e

module _ {P F : Type 0} (T : Theory P F) where
  pub data Passes : Change P → Change P → Change P → Change P → Type 0 where
    ops : {o u : Op} → Disjoint o u → Passes (op o) (op u) (op u) (op o)
    over : {o : Op} {x y : ℕ} {p : P} → Carries o x y → Passes (op o) (inside y p) (inside x p) (op o)
    under : {o : Op} {x y : ℕ} {p : P} → Carries o x y → Passes (inside x p) (op o) (op o) (inside y p)
    slots : {m n : ℕ} {p q q' p' : P} → Placed T m n p q q' p' → Passes (inside m p) (inside n q) (inside n q') (inside m p')

  pass_unshared : (c d : Change P) → Unshared c d → Passes c d d c
  pass_unshared (op o) (op u) n = ops n
  pass_unshared (op o) (inside y p) n = over (stays (λ h. n y h refl))
  pass_unshared (inside x p) (op u) n = under (stays (λ h. n x refl h))
  pass_unshared (inside x p) (inside y q) n = slots (apart (λ e. n y e refl))

  -- from the function to the relation
  as_answered : {c d : Change P} (r s d' c' : SheetChange P) → ◌≡◌ {A = Option (SheetChange P × SheetChange P)} (Some (r, s)) (Some (d', c')) → Passes c d (read r) (read s) → Passes c d (read d') (read c')
  as_answered {c} {d} r s d' c' e h =
      let (a, b) = pair_of e in
      subst (λ (z : SheetChange P). Passes c d (read z) (read c')) a (subst (λ (z : SheetChange P). Passes c d (read r) (read z)) b h)

  pass_sharing : (c d d' c' : SheetChange P) → share c d ≡ true → sharing_commute T c d ≡ Some (d', c') → Passes (read c) (read d) (read d') (read c')
  pass_sharing (Create a) d d' c' s h = none_some h
  pass_sharing (Remove a) d d' c' s h = none_some h
  pass_sharing (Move a b) (Create x) d' c' s h = none_some h
  pass_sharing (Move a b) (Remove x) d' c' s h = none_some h
  pass_sharing (Move a b) (Move x y) d' c' s h = none_some h
  pass_sharing (Move a b) (Inside x p) d' c' s h =
      let (e, k) = answered (same_sheet x b) h in
      as_answered (Inside a p) (Move a b) d' c' k
      (subst (λ (n : ℕ). Passes (op (move a.0 b.0)) (inside n p) (inside a.0 p) (op (move a.0 b.0))) (sym (eqb-true _ _ e)) (over moved))
  pass_sharing (Inside x p) (Create a) d' c' s h = none_some h
  pass_sharing (Inside x p) (Remove a) d' c' s h = none_some h
  pass_sharing (Inside x p) (Move a b) d' c' s h =
      let (e, k) = answered (same_sheet x a) h in
      as_answered (Move a b) (Inside b p) d' c' k
      (subst (λ (n : ℕ). Passes (inside n p) (op (move a.0 b.0)) (op (move a.0 b.0)) (inside b.0 p)) (sym (eqb-true _ _ e)) (under moved))
  pass_sharing (Inside x p) (Inside y q) d' c' s h =
      let (r, k, a, b) = both_some (Inside y) (Inside x) (T.commute p q) d' c' h in
      subst (λ (z : SheetChange P). Passes (inside x.0 p) (inside y.0 q) (read z) (read c')) a
      (subst (λ (z : SheetChange P). Passes (inside x.0 p) (inside y.0 q) (inside y.0 r.0) (read z)) b (slots (one (sym (eqb-true _ _ s)) k)))

  pub passes : (c d d' c' : SheetChange P) → Commutes (sheets T) c d d' c' → Passes (read c) (read d) (read d') (read c')
  passes c d d' c' h = by (share c d) refl h
    where
      by : (b : Bool) → share c d ≡ b → cond b (sharing_commute T c d) (Some (d, c)) ≡ Some (d', c') → Passes (read c) (read d) (read d') (read c')
      by true e k = pass_sharing c d d' c' e k
      by false e k = as_answered d c d' c' k (pass_unshared (read c) (read d) (unshared_from c d e))

  -- and from the relation to the function
  commutes_unshared : (c d : Change P) → Unshared c d → Commutes (sheets T) (coded c) (coded d) (coded d) (coded c)
  commutes_unshared c d n =
      let e : share (coded c) (coded d) ≡ false = share_false (coded c) (coded d) (rw (read_coded c, read_coded d) n) in rw e

  commutes_coded : {c d d' c' : Change P} → Passes c d d' c' → Commutes (sheets T) (coded c) (coded d) (coded d') (coded c')
  commutes_coded (ops {o} {u} n) = commutes_unshared (op o) (op u) n
  commutes_coded (over {o} {x} {p = p} (stays h)) = commutes_unshared (op o) (inside x p) (λ y i j. h (subst (Of o) (sym j) i))
  commutes_coded (over (moved {a} {b})) =
      let e = eq-eqb b b refl in let s : (eqb b a || eqb b b) ≡ true = or_right (eqb b a) (eqb b b) e in rw (s, e)
  commutes_coded (under {o} {x} {p = p} (stays h)) = commutes_unshared (inside x p) (op o) (λ y i j. h (subst (Of o) (sym i) j))
  commutes_coded (under (moved {a} {b})) = rw (eq-eqb a a refl)
  commutes_coded (slots {m} {n} (one e h)) = rw (eq-eqb n m (sym e)) (ap (both (Inside (sheet n)) (Inside (sheet m))) h)
  commutes_coded (slots {m} {n} {p} {q} (apart ne)) = commutes_unshared (inside m p) (inside n q) (λ x i j. ne (i ∙ sym j))

  pub commutes : {c d d' c' : Change P} {e f f' e' : SheetChange P} → coded c ≡ e → coded d ≡ f → coded d' ≡ f' → coded c' ≡ e' → Passes c d d' c' → Commutes (sheets T) e f f' e'
  commutes i j j' i' h = sym (ap₂ (sheet_commute T) i j) ∙ commutes_coded h ∙ ap₂ (λ x y. Some (x, y)) j' i'

  abbrev pub inverted : Change P → Change P
  inverted (op o) = op (turned o)
  inverted (inside a p) = inside a (T.invert p)

  pub coded_inverted : (c : SheetChange P) → coded (inverted (read c)) ≡ sheet_invert T c
  coded_inverted (Create a) = refl
  coded_inverted (Remove a) = refl
  coded_inverted (Move a b) = refl
  coded_inverted (Inside a p) = refl

  module _ (l : Lawful T) where
    pub passes_back : {c d d' c' : Change P} → Passes c d d' c' → Passes d' c' c d
    passes_back (ops n) = ops (λ x i j. n x j i)
    passes_back (over h) = under h
    passes_back (under h) = over h
    passes_back (slots h) = slots (placed_back T l h)

    pub passes_turn : {c d d' c' : Change P} → Passes c d d' c' → Passes (inverted c) d' d (inverted c')
    passes_turn (ops {o} n) = ops (λ x i j. n x (of_turned o x i) j)
    passes_turn (over h) = over (carries_back h)
    passes_turn (under h) = under h
    passes_turn (slots h) = slots (placed_turn T l h)

    -- Two insides that an operation takes along are of one place after it just if they are before it.
    along : {o : Op} {x y u v : ℕ} {p q q' p' : P} → Carries o x y → Carries o u v → Placed T x u p q q' p' → Placed T y v p q q' p'
    along a b = placed_elsewhere T (carries_one a b) (carries_one (carries_back a) (carries_back b))

    along_back : {o : Op} {x y u v : ℕ} {p q q' p' : P} → Carries o x y → Carries o u v → Placed T y v p q q' p' → Placed T x u p q q' p'
    along_back a b = along (carries_back a) (carries_back b)

    pub passes_three : {p q q1 p1 r r1 p2 r2 q2 : Change P} → Passes p q q1 p1 → Passes p1 r r1 p2 → Passes q1 r1 r2 q2
        → (s : Change P) × (b : Change P) × (a : Change P) × Passes q r s b × Passes p s r2 a × Passes a b q2 p2
    passes_three (ops h) (ops i) (ops j) = (_, _, _, ops j, ops i, ops h)
    passes_three (ops h) (over i) (over j) = let (v, a, b) = carries_apart h j i in (_, _, _, over b, over a, ops h)
    passes_three (over {o} h) (ops i) (under j) =
        let (v, a, b) = carries_apart (λ x k m. i x (of_turned o x m) k) (carries_back h) j in (_, _, _, under a, ops i, over (carries_forth o b))
    passes_three (under h) (under i) (ops j) = let (v, a, b) = carries_apart (λ x k m. j x m k) h i in (_, _, _, ops j, under a, under b)
    passes_three (over h) (over i) (slots j) = (_, _, _, slots (along h i j), over i, over h)
    passes_three (under h) (slots i) (over j) = (_, _, _, over j, slots (along_back h j i), under h)
    passes_three (slots h) (under i) (under j) = (_, _, _, under j, under i, slots (along i j h))
    passes_three (slots h) (slots i) (slots j) = let (s, b, a, x, y, z) = placed_three T l h i j in (_, _, _, slots x, slots y, slots z)
