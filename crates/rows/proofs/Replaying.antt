-- One patch more of a row, applied.
use Rattle.std.proofs.Common.{◌≡◌, ℕ, ◌+◌, ◌<◌, List, [], ◌∷◌, ◌++◌, length, get_or, take, drop, Ok, Err, Result, sym, ap, ◌∙◌, subst, arith}
use Rattle.std.proofs.lemmas.List.{take_more, take-append-drop, length-take-le}
use Rattle.kinds.specs.declared.answers.Failure.{Failure}
use Rattle.kinds.specs.declared.steps.AtStep.{AtStep}
use Rattle.kinds.specs.Theory.{Theory}
use Rattle.kinds.specs.Laws.{Lawful}
use Rattle.kinds.specs.Bounded.{Applied}
use Rattle.kinds.specs.Parts.{failing}
use Rattle.kinds.specs.Sequences.{found_at, sequences}
use Rattle.kinds.proofs.Stepwise.{applied_more, applied_stopped}

module _ {P F : Type 0} (T : Theory P F) (row : List P) (was : List ℕ) where
  pub one_more : Lawful T → (i : ℕ) (x : P) (mid : List ℕ) (r : Result (Unit {0}) (Failure F)) (s : Result (Unit {0}) (Failure (AtStep F))) (left : List ℕ)
      → i < length row → x ≡ get_or row i x → Applied (sequences T) (take i row) was (Ok tt) mid → Applied T x mid r left → s ≡ failing (found_at i) r
      → Applied (sequences T) (take (i + 1) row) was s left
  one_more L i x mid r s left h e a b j =
      let long : length (take i row) ≡ i = length-take-le i row (omega arith) in
      let whole : take i row ++ x ∷ [] ≡ take (i + 1) row = ap (λ (y : P). take i row ++ y ∷ []) e ∙ sym (take_more row i x h) in
      rw (← whole, j) (subst (λ n. Applied (sequences T) (take i row ++ x ∷ []) was (failing (found_at n) r) left) long (applied_more T L (take i row) x was tt mid r left a b))

  pub broken_off : (i : ℕ) (f : Failure (AtStep F)) (left : List ℕ) → Applied (sequences T) (take i row) was (Err f) left → Applied (sequences T) row was (Err f) left
  broken_off i f left a = subst (λ (z : List P). Applied (sequences T) z was (Err f) left) (take-append-drop i row) (applied_stopped T (take i row) (drop i row) was f left a)
