-- Going through the tests of a call, one after the other.
use Rattle.std.proofs.Common.{◌≡◌, Bool, true, false, eqb, ◌≢◌, Some, None, Ok, Err, Option, Result, sym, refl, ap, ◌∙◌}
use Rattle.std.proofs.lemmas.Bool.{eqb-false}
use Rattle.kinds.specs.Theory.{Theory}
use Rattle.kinds.specs.Parts.{part}
use Rattle.kinds.specs.Sequences.{and_then}
use Rattle.kinds.proofs.Parts.{part_ok}
use Rattle.histories.proofs.Stops.{ok_not_err, then_ok}
use Rattle.shop.specs.declared.refusal.Refusal.{Refusal}
use Rattle.shop.specs.Refusals.{number}
use Rattle.shop.specs.Calls.{or_refused, refused_if_some}

-- which refusal it is
the_err : {A E : Type 0} {x y : E} → ◌≡◌ {A = Result A E} (Err x) (Err y) → x ≡ y
the_err {A} {E} {x} {y} e = cc

-- one answer is known, and what follows
pub then_go : {A B E : Type 0} {r : Result A E} {a : A} (f : A → Result B E) {s : Result B E} → r ≡ Ok a → f a ≡ s → and_then r f ≡ s
then_go f e k = ap (λ x. and_then x f) e ∙ k

-- the call was accepted: this answer was Ok, and what follows too
pub accepted : {A B C E : Type 0} (r : Result A E) {f : A → Result B E} {b : B} → and_then r f ≡ Ok b → ((a : A) → r ≡ Ok a → f a ≡ Ok b → C) → C
accepted r {f} {b} e k = let (a, i, j) = then_ok r f b e in k a i j

-- this answer is known
pub past : {A B E : Type 0} {r : Result A E} {a : A} (f : A → Result B E) {s : Result B E} → r ≡ Ok a → and_then r f ≡ s → f a ≡ s
past f e k = sym (ap (λ x. and_then x f) e) ∙ k

-- an answer whose refusal is told in another way
pub retold : {A E G : Type 0} (g : E → G) (r : Result A E) (a : A) → part (λ x. x) g r ≡ Ok a → r ≡ Ok a
retold g r a e = let (b, i, j) = part_ok (λ x. x) g r a e in i ∙ ap Ok j

module _ {F : Type 0} where
  -- the call went on
  pub test_holds : (b : Bool) (x : Refusal F) (u : Unit {0}) → or_refused b x ≡ Ok u → b ≡ true
  test_holds true x u e = refl
  test_holds false x u e = absurd (ok_not_err (sym e))

  pub test_goes : (b : Bool) (x : Refusal F) → b ≡ true → or_refused b x ≡ Ok tt
  test_goes b x e = ap (λ c. or_refused c x) e

  -- the call is not refused as torn
  abbrev pub Untorn : {A : Type 0} → Result A (Refusal F) → Type 0
  Untorn r = (x : Refusal F) → r ≡ Err x → number x ≢ 20

  pub untorn_ok : {A : Type 0} (a : A) → Untorn (Ok a)
  untorn_ok a x e = absurd (ok_not_err e)

  pub untorn_known : {A : Type 0} {r : Result A (Refusal F)} {a : A} → r ≡ Ok a → Untorn r
  untorn_known e x k = absurd (ok_not_err (sym e ∙ k))

  pub untorn_as : {A : Type 0} (x : Refusal F) → eqb (number x) 20 ≡ false → Untorn {A = A} (Err x)
  untorn_as x e y k z = eqb-false (number x) 20 e (ap number (the_err k) ∙ z)

  pub untorn_test : (b : Bool) (x : Refusal F) → eqb (number x) 20 ≡ false → Untorn (or_refused b x)
  untorn_test true x e = untorn_ok tt
  untorn_test false x e = untorn_as x e

  pub untorn_then : {A B : Type 0} (r : Result A (Refusal F)) (f : A → Result B (Refusal F)) → Untorn r → ((a : A) → r ≡ Ok a → Untorn (f a)) → Untorn (and_then r f)
  untorn_then (Ok a) f u k = k a refl
  untorn_then (Err y) f u k = λ x e. u x (ap Err (the_err e))

  -- a stop that is told by a refusal
  pub untorn_part : {A B E : Type 0} (f : A → B) (g : E → Refusal F) (r : Result A E) → ((x : E) → r ≡ Err x → eqb (number (g x)) 20 ≡ false) → Untorn (part f g r)
  untorn_part f g (Ok a) h = untorn_ok (f a)
  untorn_part f g (Err x) h = untorn_as (g x) (h x refl)

  -- an answer of which less is told
  pub untorn_less : {A B : Type 0} (f : A → B) (r : Result A (Refusal F)) → Untorn r → Untorn (part f (λ x. x) r)
  untorn_less f (Ok a) u = untorn_ok (f a)
  untorn_less f (Err x) u = λ y e. u y (ap Err (the_err e))

-- a test that nothing is found
module _ {P F : Type 0} (T : Theory P F) {A : Type 0} (f : A → Refusal F) where
  pub untorn_none : (o : Option A) → ((a : A) → eqb (number (f a)) 20 ≡ false) → Untorn (refused_if_some T f o)
  untorn_none None h = untorn_ok tt
  untorn_none (Some a) h = untorn_as (f a) (h a)

  pub none_there : (o : Option A) (u : Unit {0}) → refused_if_some T f o ≡ Ok u → o ≡ None
  none_there None u e = refl
  none_there (Some a) u e = absurd (ok_not_err (sym e))
