-- Lists of slots: one slot read and set, and their words.
use Rattle.std.proofs.Common.{◌≡◌, ℕ, zero, suc, ◌+◌, ◌*◌, ◌<◌, ◌≤◌, Bool, true, ◌&&◌, eqb, ◌↔◌, List, [], ◌∷◌, ◌++◌, length, set, replicate, Some, sum_by, sym, refl, ap, ◌∙◌, append_assoc, suc-mul, zero-mul, arith, length-append}
use Rattle.std.specs.List.{AllByRecursion, slice_get, flat_map, list_all}
use Rattle.std.proofs.lemmas.List.{replicate-append-replicate}
use Rattle.std.proofs.lemmas.List.Sums.{sum_by-cons}
use Rattle.std.proofs.lemmas.Bool.{and_parts, and_from, eqb-true, eq-eqb}
use Rattle.kinds.proofs.Cases.{some_one, none_some}
use Rattle.kinds.proofs.Joins.{append_apart}

-- Slot n of the first list holds x, and the second is the first with y there.
pub data Step {X : Type 0} : X → X → ℕ → List X → List X → Type 0 where
  here : {x y : X} {xs : List X} → Step x y zero (x ∷ xs) (y ∷ xs)
  next : {x y z : X} {n : ℕ} {xs ys : List X} → Step x y n xs ys → Step x y (suc n) (z ∷ xs) (z ∷ ys)

module _ {X : Type 0} where
  pub step_from : (x y : X) (n : ℕ) (d : List X) → slice_get d n ≡ Some x → Step x y n d (set d n y)
  step_from x y n [] h = none_some h
  step_from x y zero (z ∷ d) h = rw (some_one z x h) here
  step_from x y (suc n) (z ∷ d) h = next (step_from x y n d h)

  pub step_reads : {x y : X} {n : ℕ} {d e : List X} → Step x y n d e → slice_get d n ≡ Some x
  step_reads here = refl
  step_reads (next s) = step_reads s

  pub step_sets : {x y : X} {n : ℕ} {d e : List X} → Step x y n d e → e ≡ set d n y
  step_sets here = refl
  step_sets (next {z = z} s) = ap (λ l. z ∷ l) (step_sets s)

  pub step_back : {x y : X} {n : ℕ} {d e : List X} → Step x y n d e → Step y x n e d
  step_back here = here
  step_back (next s) = next (step_back s)

  -- one slot has one value
  pub same_slot : {x y u v : X} {n : ℕ} {d e c : List X} → Step x y n d e → Step u v n d c → x ≡ u
  same_slot s t = some_one _ _ (sym (step_reads s) ∙ step_reads t)

  -- two steps at one slot are one
  pub join : {x y u v : X} {n : ℕ} {d c e : List X} → Step x y n d c → Step u v n c e → Step x v n d e
  join here here = here
  join (next s) (next t) = next (join s t)

  -- and one is two, by any value
  pub split : {x z : X} {n : ℕ} {d e : List X} (y : X) → Step x z n d e → (c : List X) × Step x y n d c × Step y z n c e
  split y (here {xs = xs}) = (y ∷ xs, here, here)
  split y (next {z = a} s) = let (c, l, r) = split y s in (a ∷ c, next l, next r)

  -- steps at two slots commute
  pub steps_apart : {x y u v : X} {m n : ℕ} {d c e : List X} → (m ≡ n → ⊥) → Step x y m d c → Step u v n c e → (b : List X) × Step u v n d b × Step x y m b e
  steps_apart ne here here = absurd (ne refl)
  steps_apart ne (here {x = x}) (next {ys = ys} t) = (x ∷ ys, next t, here)
  steps_apart ne (next {ys = xs} s) (here {y = v}) = (_, here, next s)
  steps_apart ne (next {z = z} s) (next t) = let (b, l, r) = steps_apart (λ e. ne (ap suc e)) s t in (z ∷ b, next l, next r)

  pub step_length : {x y : X} {n : ℕ} {d e : List X} → Step x y n d e → length e ≡ length d
  step_length here = refl
  step_length (next s) = ap suc (step_length s)

  pub step_size : (f : X → ℕ) {x y : X} {n : ℕ} {d e : List X} → Step x y n d e → sum_by f e + f x ≡ sum_by f d + f y
  step_size f (here {x} {y} {xs}) = rw (sum_by-cons f x xs, sum_by-cons f y xs) (omega arith)
  step_size f (next {z = z} {xs = xs} {ys = ys} s) =
      let h = step_size f s in rw (sum_by-cons f z xs, sum_by-cons f z ys) (omega arith)

  pub slot_size : (f : X → ℕ) {x y : X} {n : ℕ} {d e : List X} → Step x y n d e → f x ≤ sum_by f d
  slot_size f (here {x} {y} {xs}) = rw (sum_by-cons f x xs) (omega arith)
  slot_size f (next {z = z} {xs = xs} s) = let h = slot_size f s in rw (sum_by-cons f z xs) (omega arith)

  pub slot_of_all : (P : X → Type 0) {x y : X} {n : ℕ} {d e : List X} → Step x y n d e → AllByRecursion P d → P x
  slot_of_all P here a = a.0
  slot_of_all P (next s) a = slot_of_all P s a.1

  pub all_after : (P : X → Type 0) {x y : X} {n : ℕ} {d e : List X} → Step x y n d e → P y → AllByRecursion P d → AllByRecursion P e
  all_after P here h a = (h, a.1)
  all_after P (next s) h a = (a.0, all_after P s h a.1)

-- What a slot holds: its fresh value, which `blank` tells, and its words, which tell what it holds.
pub record Holds {X : Type 0} (fresh : X) (blank : X → Bool) (size : X → ℕ) (fits : X → Type 0) (w : ℕ) (encode : X → List ℕ) : Type 0 where
  pub starts : fits fresh × (size fresh ≡ 0) × (encode fresh ≡ replicate w 0)
  pub tells_fresh : (x : X) → (blank x ≡ true) ↔ (x ≡ fresh)
  pub filled : (x : X) → fits x → length (encode x) ≡ w
  pub apart : (x y : X) → fits x → fits y → encode x ≡ encode y → x ≡ y

module _ {X : Type 0} {fresh : X} {blank : X → Bool} {size : X → ℕ} {fits : X → Type 0} {w : ℕ} {encode : X → List ℕ} (h : Holds fresh blank size fits w encode) where
  one_more : (n : ℕ) → w + n * w ≡ suc n * w
  one_more n = omega (arith, suc-mul n w)

  all_fresh : (n : ℕ) → (length (replicate n fresh) ≡ n) × AllByRecursion fits (replicate n fresh)
  all_fresh zero = (refl, tt)
  all_fresh (suc n) = (ap suc (all_fresh n).0, (h.starts.0, (all_fresh n).1))

  no_size : (n : ℕ) → sum_by size (replicate n fresh) ≡ 0
  no_size zero = refl
  no_size (suc n) = rw (sum_by-cons size fresh (replicate n fresh)) (omega (arith, h.starts.1, no_size n))

  all_zeros : (n : ℕ) → flat_map encode (replicate n fresh) ≡ replicate (n * w) 0
  all_zeros zero = rw (zero-mul w)
  all_zeros (suc n) = ap (λ l. l ++ flat_map encode (replicate n fresh)) h.starts.2 ∙ ap (λ l. replicate w 0 ++ l) (all_zeros n)
      ∙ replicate-append-replicate w (n * w) 0 ∙ ap (λ k. replicate k 0) (one_more n)

  every_fresh : (n : ℕ) → list_all blank (replicate n fresh) ≡ true
  every_fresh zero = refl
  every_fresh (suc n) = and_from _ _ ((h.tells_fresh fresh).1 refl) (every_fresh n)

  from_every : (d : List X) → list_all blank d ≡ true → d ≡ replicate (length d) fresh
  from_every [] e = refl
  from_every (x ∷ d) e =
      let s = and_parts (blank x) (list_all blank d) e in
      let a = (h.tells_fresh x).0 s.0 in
      let b = from_every d s.1 in
      λ i. a i ∷ b i

  all_filled : (d : List X) → AllByRecursion fits d → length (flat_map encode d) ≡ length d * w
  all_filled [] a = sym (zero-mul w)
  all_filled (x ∷ d) a = length-append (encode x) (flat_map encode d) ∙ omega (arith, h.filled x a.0, all_filled d a.1, one_more (length d))

  all_apart : (d e : List X) → length d ≡ length e → AllByRecursion fits d → AllByRecursion fits e → flat_map encode d ≡ flat_map encode e → d ≡ e
  all_apart [] [] l a b k = refl
  all_apart [] (y ∷ e) l a b k = absurd (omega arith)
  all_apart (x ∷ d) [] l a b k = absurd (omega arith)
  all_apart (x ∷ d) (y ∷ e) l a b k =
      let s = append_apart (encode x) (flat_map encode d) (encode y) (flat_map encode e) (h.filled x a.0 ∙ sym (h.filled y b.0)) k in
      let u = h.apart x y a.0 b.0 s.0 in
      let v = all_apart d e (omega arith) a.1 b.1 s.1 in
      λ i. u i ∷ v i

  -- n slots hold as one does
  pub slots_hold : (n : ℕ) → Holds (replicate n fresh) (λ d. eqb (length d) n && list_all blank d) (sum_by size) (λ d. (length d ≡ n) × AllByRecursion fits d) (n * w) (flat_map encode)
  slots_hold n = record {
    starts = (all_fresh n, no_size n, all_zeros n);
    tells_fresh = λ d. (
      λ e. let s = and_parts (eqb (length d) n) (list_all blank d) e in
          from_every d s.1 ∙ ap (λ k. replicate k fresh) (eqb-true (length d) n s.0),
      λ e. rw e (and_from _ _ (eq-eqb _ n (all_fresh n).0) (every_fresh n)),
    );
    filled = λ d f. all_filled d f.1 ∙ ap (λ k. k * w) f.0;
    apart = λ d e f g k. all_apart d e (f.0 ∙ sym g.0) f.1 g.1 k;
  }

  -- A slot's words stand in those of the list, with so many before them, and setting the slot changes no others.
  pub slot_words : (x : X) (n : ℕ) (d : List X) → slice_get d n ≡ Some x → AllByRecursion fits d
      → (a : List ℕ) × (b : List ℕ) × (length a ≡ n * w) × (flat_map encode d ≡ a ++ (encode x ++ b)) × ((y : X) → flat_map encode (set d n y) ≡ a ++ (encode y ++ b))
  slot_words x n [] o f = none_some o
  slot_words x zero (z ∷ d) o f = ([], flat_map encode d, sym (zero-mul w), ap (λ v. encode v ++ flat_map encode d) (some_one z x o), λ y. refl)
  slot_words x (suc n) (z ∷ d) o f =
      let (a, b, l, p, q) = slot_words x n d o f.1 in (
        encode z ++ a,
        b,
        length-append (encode z) a ∙ omega (arith, h.filled z f.0, one_more n),
        ap (λ v. encode z ++ v) p ∙ sym (append_assoc (encode z) a _),
        λ y. ap (λ v. encode z ++ v) (q y) ∙ sym (append_assoc (encode z) a _),
      )

pub slot_there : {X : Type 0} (n : ℕ) (d : List X) → n < length d → (x : X) × (slice_get d n ≡ Some x)
slot_there n [] h = absurd (omega arith)
slot_there zero (x ∷ d) h = (x, refl)
slot_there (suc n) (x ∷ d) h = slot_there n d (omega arith)
