-- Where the options of a row begin.
use Rattle.std.proofs.Common.{◌≡◌, ℕ, ◌+◌, ◌<◌, min, List, [], ◌∷◌, ◌++◌, ◌^◌, fold, length, get_or, take, Ok, Err, sum_by, Result, sym, refl, ap, ◌∙◌, zero-add, arith}
use Rattle.std.proofs.lemmas.List.{drop_more, take_at}
use Rattle.std.proofs.lemmas.List.Sums.{sum_by_from}
use Rattle.options.specs.declared.parts.Part.{Part}
use Rattle.kinds.specs.declared.answers.Clash.{Clash}
use Rattle.kinds.specs.declared.steps.AtStep.{AtStep}
use Rattle.rows.specs.TakeOut.{taken, TakenOut}
use Rattle.product.specs.Controller.{Change, controller}
use Rattle.options.specs.Fitting.{count_of, start_of, size_of, passed_off, TakenOff}

-- a sum that stays at the largest number where it would outgrow it
abbrev pub saturated : ℕ → Part → ℕ
saturated s p = min (s + p.count) 18446744073709551615

abbrev pub plain : ℕ → Part → ℕ
plain s p = s + count_of p

pub fold_saturated : (parts : List Part) (s : ℕ) → fold plain s parts < 2 ^ 64 → fold saturated s parts ≡ fold plain s parts
fold_saturated [] s h = refl
fold_saturated (p ∷ parts) s h =
    let from : fold plain (s + p.count) parts ≡ s + p.count + sum_by count_of parts = sum_by_from count_of (s + p.count) parts in
    let e : saturated s p ≡ s + p.count = omega arith in
    rw e (fold_saturated parts (s + p.count) h)

module _ (parts : List Part) where
  pub size_at : (k : ℕ) (x : Part) → k < length parts → x ≡ get_or parts k x → x.count ≡ size_of parts k
  size_at k x h e =
      ap count_of e ∙ sym (zero-add (count_of (get_or parts k x))) ∙ ap (λ z. sum_by count_of (take 1 z)) (sym (drop_more parts k x h))

  -- what taking changes out of the row says of the option
  module _ (row : List Change) (k : ℕ) (start count : ℕ) (after : List Change) (s : start ≡ start_of parts k) (n : count ≡ size_of parts k) where
    pub went_off : (left : ℕ) → TakenOut controller row start count (Ok left) after → TakenOff row parts k (Ok tt) (take left after)
    went_off left = rw (s, n) (on (passed_off row parts k) refl)
      where
        on : (a : Result (List Change × List Change) (AtStep Clash)) → passed_off row parts k ≡ a → taken (take (start_of parts k) row) a (Ok left) after
            → (t : List Change × List Change) × (passed_off row parts k ≡ Ok t) × (take left after ≡ take (start_of parts k) row ++ t.0)
        on (Ok t) e x =
            let l : length (take (start_of parts k) row ++ t.0) ≡ left = cc in
            (t, e, ap (take left) x.1 ∙ take_at (take (start_of parts k) row ++ t.0) t.1 left l)
        on (Err y) e x = absurd (let z : ◌≡◌ {A = ℕ} 0 1 = cc in omega arith)
