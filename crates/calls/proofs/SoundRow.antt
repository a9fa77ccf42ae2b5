-- The history of a repository, from its row in the memory of a shop.
use Rattle.std.proofs.Common.{◌≡◌, ℕ, Bool, true, false, [], Ok, Err, sym, refl, ap, ◌∙◌, subst}
use Rattle.std.proofs.Math.ListN.{get_or-map}
use Rattle.kinds.specs.Theory.{Theory}
use Rattle.kinds.specs.Parts.{part}
use Rattle.kinds.specs.Sequences.{and_then}
use Rattle.histories.proofs.Stops.{ok_not_err, the_ok}
use Rattle.forms.specs.Form.{grouped, sound}
use Rattle.shop.specs.declared.refusal.Refusal.{Refusal}
use Rattle.shop.specs.declared.refusal.Refusal.TheVariants.{NoName, Torn}
use Rattle.shop.specs.declared.shop.Shop.{Shop}
use Rattle.shop.specs.State.{History, at}
use Rattle.shop.specs.Calls.{or_refused, sound_at}
use Rattle.shop.proofs.Chains.{test_holds}
use Rattle.shop.specs.Held.{rows_of, row_at, state_of}

-- a test that was answered
pub tested : {F : Type 0} (b : Bool) (x : Refusal F) → Ok tt ≡ or_refused b x → b ≡ true
tested b x e = test_holds b x tt (sym e)

-- whether there was a next name
pub a_name : {F : Type 0} (b : Bool) (k a : ℕ) → Ok a ≡ part (λ _. k) (λ x. x) (or_refused {F = F} b NoName) → (or_refused {F = F} b NoName ≡ Ok tt) × (a ≡ k)
a_name true k a e = (refl, the_ok e)
a_name false k a e = absurd (ok_not_err e)

pub held_at : {P : Type 0} (s : Shop P) (r : ℕ) → at (state_of s) r ≡ grouped (row_at s r)
held_at s r = get_or-map grouped (rows_of s) r []

module _ {P F : Type 0} (T : Theory P F) (s : Shop P) (r : ℕ) where
  -- a history that was answered has the right form
  pub formed : (h : History P) → Ok h ≡ sound_at T (state_of s) r → sound T s.counter (grouped (row_at s r)) ≡ true
  formed h e = subst (λ z. sound T s.counter z ≡ true) (held_at s r) (on (sound T s.counter (at (state_of s) r)) e)
    where
      on : (b : Bool) → Ok h ≡ and_then (or_refused {F = F} b (Torn r)) (λ _. Ok (at (state_of s) r)) → b ≡ true
      on true e = refl
      on false e = absurd (ok_not_err e)

  pub is_sound : Ok tt ≡ or_refused {F = F} (sound T s.counter (grouped (row_at s r))) (Torn r) → Ok (grouped (row_at s r)) ≡ sound_at T (state_of s) r
  is_sound e = let b = tested (sound T s.counter (grouped (row_at s r))) (Torn r) e in rw (held_at s r, b) refl

  pub unsound : (x : Refusal F) → Err x ≡ or_refused (sound T s.counter (grouped (row_at s r))) (Torn r) → Err x ≡ sound_at T (state_of s) r
  unsound x e = sym (ap (λ z. and_then z (λ _. Ok (at (state_of s) r))) (ap (λ h. or_refused {F = F} (sound T s.counter h) (Torn r)) (held_at s r) ∙ sym e))
