-- What is known where an answer is done, refused or too far.
use Rattle.std.proofs.Common.{◌≡◌, ℕ, Bool, true, false, cond, ◌⊎◌, Some, None, Ok, Err, Option, Result, refl, ap, ◌∙◌, inl, inr, arith}
use Rattle.kinds.specs.declared.answers.Clash.TheVariants.{TooFar}
use Rattle.kinds.specs.Theory.{Theory}
use Rattle.kinds.specs.Bounded.{done_or_refused}
use Rattle.kinds.specs.Laws.{Commutes}
use Rattle.kinds.specs.Parts.{part}
use Rattle.kinds.specs.Sequences.{and_then}
use Rattle.histories.specs.declared.Stop.{Stop}
use Rattle.histories.specs.declared.Stop.TheVariants.{By, TooFar as Far}
use Rattle.histories.specs.History.{stopped_at, commuted_at}

pub ok_not_err : {A E : Type 0} {a : A} {x : E} → ◌≡◌ {A = Result A E} (Ok a) (Err x) → ⊥
ok_not_err e = let z : ◌≡◌ {A = ℕ} 0 1 = cc in omega arith

pub the_ok : {A E : Type 0} {a b : A} → ◌≡◌ {A = Result A E} (Ok a) (Ok b) → a ≡ b
the_ok {A} {E} {a} {b} e = cc

-- one answer, and then another
pub then_ok : {A B E : Type 0} (r : Result A E) (f : A → Result B E) (b : B) → and_then r f ≡ Ok b → (a : A) × (r ≡ Ok a) × (f a ≡ Ok b)
then_ok (Ok a) f b e = (a, refl, e)
then_ok (Err x) f b e = absurd (let z : ◌≡◌ {A = ℕ} 0 1 = cc in omega arith)

pub then_err : {A B E : Type 0} (r : Result A E) (f : A → Result B E) (x : E) → and_then r f ≡ Err x → (r ≡ Err x) ⊎ ((a : A) × (r ≡ Ok a) × (f a ≡ Err x))
then_err (Ok a) f x e = inr (a, refl, e)
then_err (Err y) f x e = inl (let z : y ≡ x = cc in ap Err z)

module _ {P F : Type 0} (T : Theory P F) (name : P → ℕ) (w p q : P) where
  open T use {commute, far}

  -- a commute, by what the kind answers
  abbrev told : Bool → Option (P × P) → Result (P × P) Stop
  told b o = part (λ r. r) (stopped_at name w) (cond b (Err TooFar) (done_or_refused o))

  pub commuted_ok : (r : P × P) → commuted_at T name w p q ≡ Ok r → (far p q ≡ false) × Commutes T p q r.0 r.1
  commuted_ok r e = go (far p q) (commute p q) refl refl e
    where
      go : (b : Bool) (o : Option (P × P)) → far p q ≡ b → commute p q ≡ o → told b o ≡ Ok r → (far p q ≡ false) × (commute p q ≡ Some r)
      go true o f c e = absurd (let z : ◌≡◌ {A = ℕ} 0 1 = cc in omega arith)
      go false None f c e = absurd (let z : ◌≡◌ {A = ℕ} 0 1 = cc in omega arith)
      go false (Some s) f c e = (f, c ∙ ap Some (the_ok e))

  pub commuted_refused : (n : ℕ) → commuted_at T name w p q ≡ Err (By n) → commute p q ≡ None
  commuted_refused n e = go (far p q) (commute p q) refl e
    where
      go : (b : Bool) (o : Option (P × P)) → commute p q ≡ o → told b o ≡ Err (By n) → commute p q ≡ None
      go true o c e = absurd (let z : ◌≡◌ {A = ℕ} 0 1 = cc in omega arith)
      go false None c e = c
      go false (Some s) c e = absurd (let z : ◌≡◌ {A = ℕ} 0 1 = cc in omega arith)

  pub commuted_near : far p q ≡ false → commuted_at T name w p q ≡ Err Far → ⊥
  commuted_near f e = go (commute p q) (rw f at e)
    where
      go : (o : Option (P × P)) → told false o ≡ Err Far → ⊥
      go None e = let z : ◌≡◌ {A = ℕ} 0 1 = cc in omega arith
      go (Some s) e = let z : ◌≡◌ {A = ℕ} 0 1 = cc in omega arith
