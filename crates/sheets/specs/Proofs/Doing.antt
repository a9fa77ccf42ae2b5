-- What changes do to a document, as steps at its places.
use Rattle.std.proofs.Common.{◌≡◌, ℕ, Bool, true, false, cond, List, set, Some, None, Ok, Err, Option, Result, sym, refl, ap, ◌∙◌, subst, inl, inr}
use Rattle.std.specs.List.{slice_get}
use Rattle.kinds.specs.Theory.{Theory}
use Rattle.kinds.specs.Laws.{Takes, Lawful}
use Rattle.kinds.specs.Parts.{part}
use Rattle.kinds.proofs.Cases.{some_one, ok_one, none_some, err_ok}
use Rattle.kinds.proofs.Parts.{part_ok}
use Rattle.kinds.proofs.Slots.{Step, step_from, step_reads, step_sets, step_back, same_slot, join, split, steps_apart}
use Rattle.kinds.proofs.Placed.{Makes, makes, makes_back, placed_forward}
use Rattle.sheets.specs.declared.Sheet.{Sheet}
use Rattle.sheets.specs.declared.SheetChange.TheVariants.{the_data as SheetChange, Create, Remove, Move, Inside}
use Rattle.sheets.specs.declared.SheetFault.TheVariants.{the_data as SheetFault, NotFresh, Inside as InSheet}
use Rattle.sheets.specs.Sheets.{if_there, if_absent, sheets}
use Rattle.sheets.specs.Proofs.Places.{create, remove, move, Of, stays, moved}
use Rattle.sheets.specs.Proofs.Passing.{Change, op, inside, read, Touched, Unshared, inverted, Passes, ops, over, under, slots}

there_ok : {D E F : Type 0} (a : Sheet) (f : D → Result E (SheetFault F)) (o : Option (Option D)) (e : E) → if_there a f o ≡ Ok e
    → (x : D) × (o ≡ Some (Some x)) × (f x ≡ Ok e)
there_ok a f None e h = err_ok h
there_ok a f (Some None) e h = err_ok h
there_ok a f (Some (Some x)) e h = (x, refl, h)

absent_ok : {D E F : Type 0} (a : Sheet) (r : Result E (SheetFault F)) (o : Option (Option D)) (e : E) → if_absent a r o ≡ Ok e → (o ≡ Some None) × (r ≡ Ok e)
absent_ok a r None e h = err_ok h
absent_ok a r (Some None) e h = (refl, h)
absent_ok a r (Some (Some x)) e h = err_ok h

fresh_ok : {E F : Type 0} (b : Bool) (x e : E) (f : F) → cond b (Ok x) (Err f) ≡ Ok e → (b ≡ true) × (x ≡ e)
fresh_ok true x e f h = (refl, ok_one x e h)
fresh_ok false x e f h = err_ok h

module _ {P F : Type 0} (T : Theory P F) where
  open T use {Doc, fresh}

  abbrev pub Sheets : Type 0
  Sheets = List (Option Doc)

  pub data Does : Change P → Sheets → Sheets → Type 0 where
    creates : {a : ℕ} {d e : Sheets} → Step None (Some fresh) a d e → Does (op (create a)) d e
    removes : {a : ℕ} {d e : Sheets} → Step (Some fresh) None a d e → Does (op (remove a)) d e
    moves : {a b : ℕ} {d c e : Sheets} {x : Doc} → (a ≡ b → ⊥) → Step (Some x) None a d c → Step None (Some x) b c e → Does (op (move a b)) d e
    changes : {a : ℕ} {p : P} {d e : Sheets} → Makes T Some a p d e → Does (inside a p) d e

  -- a step at a place that the change is not of
  past : {c : Change P} {x y : Option Doc} {n : ℕ} {d m e : Sheets} → (Touched c n → ⊥) → Step x y n d m → Does c m e → (b : Sheets) × Does c d b × Step x y n b e
  past h s (creates t) = let (b, i, j) = steps_apart (λ e. h (sym e)) s t in (b, creates i, j)
  past h s (removes t) = let (b, i, j) = steps_apart (λ e. h (sym e)) s t in (b, removes i, j)
  past h s (moves ne t u) =
      let (b, i, j) = steps_apart (λ e. h (inl (sym e))) s t in
      let (c, k, l) = steps_apart (λ e. h (inr (sym e))) j u in
      (c, moves ne i k, l)
  past h s (changes (makes x y k t)) = let (b, i, j) = steps_apart (λ e. h (sym e)) s t in (b, changes (makes x y k i), j)

  -- changes that share no place commute
  does_unshared : {c d : Change P} {x y z : Sheets} → Unshared c d → Does c x y → Does d y z → (b : Sheets) × Does d x b × Does c b z
  does_unshared n (creates s) k = let (b, i, j) = past (n _ refl) s k in (b, i, creates j)
  does_unshared n (removes s) k = let (b, i, j) = past (n _ refl) s k in (b, i, removes j)
  does_unshared n (moves ne s t) k =
      let (b, i, j) = past (n _ (inr refl)) t k in
      let (c, l, m) = past (n _ (inl refl)) s i in
      (c, l, moves ne m j)
  does_unshared n (changes (makes x y h s)) k = let (b, i, j) = past (n _ refl) s k in (b, i, changes (makes x y h j))

  module _ (l : Lawful T) where
    pub does_back : {c : Change P} {d e : Sheets} → Does c d e → Does (inverted T c) e d
    does_back (creates s) = removes (step_back s)
    does_back (removes s) = creates (step_back s)
    does_back (moves ne s t) = moves (λ e. ne (sym e)) (step_back t) (step_back s)
    does_back (changes h) = changes (makes_back T l Some some_one h)

    pub does_forward : {c d d' c' : Change P} {x y z : Sheets} → Passes T c d d' c' → Does c x y → Does d y z → (b : Sheets) × Does d' x b × Does c' b z
    does_forward (ops n) h k = does_unshared n h k
    does_forward (over {o} (stays n)) h k = does_unshared (λ y i j. n (subst (Of o) (sym j) i)) h k
    does_forward (over {p = p} moved) (moves {x = x} ne s t) (changes (makes u v h w)) =
        let (b, i, j) = split (Some v) s in
        let e = some_one x u (same_slot (step_back t) w) in
        (b, changes (makes x v (subst (λ (z : Doc). Takes T p z v) (sym e) h) i), moves ne j (join t w))
    does_forward (under {o} (stays n)) h k = does_unshared (λ y i j. n (subst (Of o) (sym i) j)) h k
    does_forward (under {p = p} moved) (changes (makes u v h w)) (moves {x = x} ne s t) =
        let (b, i, j) = split (Some u) t in
        let e = some_one v x (same_slot (step_back w) s) in
        (b, moves ne (join w s) i, changes (makes u x (subst (λ (z : Doc). Takes T p u z) e h) j))
    does_forward (slots h) (changes i) (changes j) = let (b, s, t) = placed_forward T l Some some_one h i j in (b, changes s, changes t)

    -- from the function to the steps
    pub does : (c : SheetChange P) (d e : Sheets) → Takes (sheets T) c d e → Does (read c) d e
    does (Create a) d e h =
        let (o, k) = absent_ok a (Ok (set d a.0 (Some fresh))) (slice_get d a.0) e h in
        subst (Does (op (create a.0)) d) (ok_one _ e k) (creates (step_from None (Some fresh) a.0 d o))
    does (Remove a) d e h =
        let (x, o, k) = there_ok a (λ x. cond (T.blank x) (Ok (set d a.0 None)) (Err (NotFresh a))) (slice_get d a.0) e h in
        let (b, q) = fresh_ok (T.blank x) (set d a.0 None) e (NotFresh a) k in
        let f = (l.held_in_words.tells_fresh x).0 b in
        subst (Does (op (remove a.0)) d) q (removes (step_from (Some fresh) None a.0 d (o ∙ ap (λ y. Some (Some y)) f)))
    does (Move a b) d e h =
        let (x, o, k) = there_ok a (λ x. if_absent b (Ok (set (set d a.0 None) b.0 (Some x))) (slice_get d b.0)) (slice_get d a.0) e h in
        let (i, j) = absent_ok b (Ok (set (set d a.0 None) b.0 (Some x))) (slice_get d b.0) e k in
        let ne : a.0 ≡ b.0 → ⊥ = λ q. none_some (sym (some_one (Some x) None (sym o ∙ ap (slice_get d) q ∙ i))) in
        let s = step_from (Some x) None a.0 d o in
        let (v, t, _) = steps_apart ne (step_back s) (step_from None (Some x) b.0 d i) in
        subst (Does (op (move a.0 b.0)) d) (step_sets t ∙ ok_one _ e j) (moves ne s t)
    does (Inside a p) d e h =
        let (x, o, k) = there_ok a (λ x. part (λ y. set d a.0 (Some y)) (InSheet a) (T.apply p x)) (slice_get d a.0) e h in
        let (y, t, q) = part_ok (λ y. set d a.0 (Some y)) (InSheet a) (T.apply p x) e k in
        subst (Does (inside a.0 p) d) q (changes (makes x y t (step_from (Some x) (Some y) a.0 d o)))

    -- and back
    pub takes : (c : SheetChange P) (d e : Sheets) → Does (read c) d e → Takes (sheets T) c d e
    takes (Create a) d e (creates s) = ap (if_absent a (Ok (set d a.0 (Some fresh)))) (step_reads s) ∙ ap Ok (sym (step_sets s))
    takes (Remove a) d e (removes s) =
        ap (if_there a (λ x. cond (T.blank x) (Ok (set d a.0 None)) (Err (NotFresh a)))) (step_reads s)
        ∙ ap (λ b. cond b (Ok (set d a.0 None)) (Err (NotFresh a))) ((l.held_in_words.tells_fresh fresh).1 refl) ∙ ap Ok (sym (step_sets s))
    takes (Move a b) d e (moves {x = x} ne s t) =
        ap (if_there a (λ x. if_absent b (Ok (set (set d a.0 None) b.0 (Some x))) (slice_get d b.0))) (step_reads s)
        ∙ ap (if_absent b (Ok (set (set d a.0 None) b.0 (Some x)))) (step_reads (steps_apart ne s t).1)
        ∙ ap Ok (sym (step_sets t ∙ ap (λ c. set c b.0 (Some x)) (step_sets s)))
    takes (Inside a p) d e (changes (makes x y h s)) =
        ap (if_there a (λ x. part (λ y. set d a.0 (Some y)) (InSheet a) (T.apply p x))) (step_reads s)
        ∙ ap (part (λ y. set d a.0 (Some y)) (InSheet a)) h ∙ ap Ok (sym (step_sets s))
