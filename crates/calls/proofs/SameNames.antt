-- Histories that hold the same names.
use Rattle.std.proofs.Common.{◌≡◌, ℕ, Bool, true, false, ◌&&◌, eqb, ◌↔◌, List, [], ◌∷◌, Ok, Result, sym, refl, ap, ◌∙◌}
use Rattle.std.proofs.lemmas.Bool.{and_parts, and_from, eqb-true, cond_both}
use Rattle.std.specs.List.{list_all}
use Rattle.histories.proofs.Removing.{same_test}
use Rattle.histories.specs.declared.named.Named.{Named}
use Rattle.histories.specs.History.{holds}
use Rattle.histories.specs.Agreement.{SameNames}
use Rattle.histories.proofs.Names.{In, in_head, in_tail, in_cast, in_of_holds, holds_of_in}
use Rattle.histories.proofs.Stops.{the_ok}
use Rattle.forms.specs.Form.{put_before, grouped}
use Rattle.shop.specs.declared.shop.Shop.{Shop}
use Rattle.shop.specs.State.{History, at}
use Rattle.shop.specs.Held.{row_at, state_of}
use Rattle.shop.proofs.Forming.{by_name}
use Rattle.calls.specs.Level.{all_held, same_names}
use Rattle.calls.proofs.SoundRow.{held_at}

twice : (a b : Bool) → (a && b) ≡ (a && (a && b))
twice true b = refl
twice false b = refl

module _ {P : Type 0} where
  -- change by change
  held_change : (c : Named P) (h k : History P) → all_held (put_before c h) k ≡ (holds by_name k c.name && all_held h k)
  held_change c [] k = refl
  held_change c (p ∷ h) k = cond_both (eqb c.name p.name) _ _ (λ (z : History P). all_held z k ≡ (holds by_name k c.name && all_held (p ∷ h) k))
      (λ e. twice (holds by_name k p.name) (all_held h k) ∙ ap (λ n. holds by_name k n && all_held (p ∷ h) k) (sym (eqb-true c.name p.name e))) (λ e. refl)

  pub held_row : (row : List (Named P)) (k : History P) → list_all (λ c. holds by_name k c.name) row ≡ all_held (grouped row) k
  held_row [] k = refl
  held_row (c ∷ row) k = ap (λ z. holds by_name k c.name && z) (held_row row k) ∙ sym (held_change c (grouped row) k)

  -- each name of one history is held by another
  held_in : (h k : History P) → all_held h k ≡ true → (n : ℕ) → In by_name n h → In by_name n k
  held_in [] k e n i = elim i [ ]
  held_in (p ∷ h) k e n (in_head i) = in_cast i (in_of_holds p.name k (and_parts (holds by_name k p.name) (all_held h k) e).0)
  held_in (p ∷ h) k e n (in_tail i) = held_in h k (and_parts (holds by_name k p.name) (all_held h k) e).1 n i

  in_held : (h k : History P) → ((n : ℕ) → In by_name n h → In by_name n k) → all_held h k ≡ true
  in_held [] k f = refl
  in_held (p ∷ h) k f = and_from (holds by_name k p.name) (all_held h k) (holds_of_in (f p.name (in_head refl))) (in_held h k (λ n i. f n (in_tail i)))

  pub names_same : (h k : History P) → same_names h k ≡ true ↔ SameNames by_name h k
  names_same h k = (
    λ e n. let (a, b) = and_parts (all_held h k) (all_held k h) e in
        same_test (holds by_name h n) (holds by_name k n) (λ i. holds_of_in (held_in h k a n (in_of_holds n h i))) (λ i. holds_of_in (held_in k h b n (in_of_holds n k i))),
    λ f. and_from (all_held h k) (all_held k h) (in_held h k (λ n i. in_of_holds n k (sym (f n) ∙ holds_of_in i))) (in_held k h (λ n i. in_of_holds n h (f n ∙ holds_of_in i))),
  )

-- what two repositories answer
pub is_level : {P E : Type 0} (s : Shop P) (q r : ℕ) (b : Bool) → b ≡ same_names (grouped (row_at s q)) (grouped (row_at s r))
    → ◌≡◌ {A = Result Bool E} (Ok b) (Ok true) ↔ SameNames by_name (at (state_of s) q) (at (state_of s) r)
is_level s q r b e =
    let told : b ≡ same_names (at (state_of s) q) (at (state_of s) r) = e ∙ λ i. same_names (sym (held_at s q) i) (sym (held_at s r) i) in
    let (f, g) = names_same (at (state_of s) q) (at (state_of s) r) in
    (λ x. f (sym told ∙ the_ok x), λ x. ap Ok (told ∙ g x))
