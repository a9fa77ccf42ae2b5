-- A call of a shop, as its definition answers it.
use Rattle.std.proofs.Common.{◌≡◌, ℕ, List, map, set, Ok, Err, Result, sym, refl, ap, ◌∙◌, subst}
use Rattle.std.proofs.lemmas.List.{map-set}
use Rattle.std.specs.Result.{MatchResult, IsErrAnd}
use Rattle.kinds.specs.Theory.{Theory}
use Rattle.kinds.specs.Parts.{part}
use Rattle.kinds.specs.Sequences.{and_then}
use Rattle.histories.specs.declared.named.Named.{Named}
use Rattle.forms.specs.Form.{grouped}
use Rattle.shop.specs.declared.refusal.Refusal.{Refusal}
use Rattle.shop.specs.declared.shop.Shop.{Shop}
use Rattle.shop.specs.State.{History, State}
use Rattle.shop.specs.Calls.{Memory}
use Rattle.shop.specs.Held.{rooms, state_of}
use Rattle.shop.specs.Reached.{Call, answer, after, called, Reached}
use Rattle.calls.specs.Untouched.{Untouched}
use Rattle.calls.specs.Leaves.{Leaves}

-- a refusal is that of all that follows
pub refused_so : {A B E : Type 0} {r : Result A E} {x : E} (f : A → Result B E) → r ≡ Err x → and_then r f ≡ Err x
refused_so f e = ap (λ z. and_then z f) e

-- the exit of a `?`
pub exit_is : {A E : Type 0} (r : Result A E) {x : E} → IsErrAnd r (λ y. y ≡ x) → r ≡ Err x
exit_is (Ok a) h = absurd h
exit_is (Err y) h = ap Err h

-- a call whose error was mapped
pub mapped : {A E G : Type 0} (f : E → G) (r : Result A E) (q : Result A G) (P : E → G → Type 0) → ((e : E) (x : G) → P e x → x ≡ f e)
    → MatchResult r (λ a. q ≡ Ok a) (λ e. IsErrAnd q (P e)) → q ≡ part (λ a. a) f r
mapped f (Ok a) q P told h = h
mapped f (Err e) (Ok a) P told h = absurd h
mapped f (Err e) (Err x) P told h = ap Err (told e x h)

-- the histories, where one row was written
pub history_written : {P : Type 0} (rows was : List (List (Named P))) (r : ℕ) (row : List (Named P)) (h : History P) → rows ≡ set was r row → grouped row ≡ h
    → map grouped rows ≡ set (map grouped was) r h
history_written rows was r row h e f = ap (map grouped) e ∙ map-set grouped was r row ∙ ap (set (map grouped was) r) f

module _ {P F : Type 0} (T : Theory P F) (m : Memory) (s : Shop P) (c : Call P) where
  -- what is defined
  abbrev defined : Result (State P × ℕ) (Refusal F)
  defined = answer T m (state_of s) c

  -- the call answers q and leaves the shop t, as is defined
  pub record Answers (q : Result ℕ (Refusal F)) (t : Shop P) : Type 0 where
    pub answer : q ≡ part (λ x. x.1) (λ x. x) defined
    pub leaves : Leaves T m s c q t

  reaches : (t : Shop P) → state_of t ≡ after T (state_of s) defined → Reached T (state_of s) → Reached T (state_of t)
  reaches t e l = subst (Reached T) (sym e) (called l m c)

  -- it is refused, and nothing is written
  pub refused : (q : Result ℕ (Refusal F)) (x : Refusal F) → q ≡ Err x → defined ≡ Err x → Answers q s
  refused q x e f =
      let i : state_of s ≡ after T (state_of s) defined = ap (after T (state_of s)) (sym f) in
      record { answer = e ∙ ap (part (λ x. x.1) (λ x. x)) (sym f); leaves = record { state = i; rooms = refl; untouched = subst (λ z. Untouched z s s) (sym e) refl; reached = reaches s i } }

  -- it is done
  pub done : (a : ℕ) (t : Shop P) (u : State P) (b : ℕ) → defined ≡ Ok (u, b) → a ≡ b → state_of t ≡ u → rooms t ≡ rooms s → Answers (Ok a) t
  done a t u b f e g h =
      let i : state_of t ≡ after T (state_of s) defined = g ∙ ap (after T (state_of s)) (sym f) in
      record { answer = ap Ok e ∙ ap (part (λ x. x.1) (λ x. x)) (sym f); leaves = record { state = i; rooms = h; untouched = tt; reached = reaches t i } }
