-- Patches taken out of a row.
use Rattle.std.proofs.Common.{◌≡◌, ℕ, ◌-◌, ◌<◌, ◌≤◌, min, Bool, true, false, cond, List, [], ◌++◌, length, take, drop, Some, None, Ok, Err, Option, Result, sym, refl, ap, ◌∙◌, subst, append_assoc, arith, length-append}
use borrow.Rule.Slice.PartMut.{put_mid}
use native.Mathlib.Nat.{min-le_left}
use Rattle.std.specs.List.{between}
use Rattle.std.proofs.lemmas.List.{take_all, drop_all, append-nil, length-drop, length-take-le}
use lib.Seq.{take-nil, drop-nil}
use Rattle.std.proofs.lemmas.Slice.{between_to_end}
use Rattle.kinds.specs.declared.answers.Clash.{Clash}
use Rattle.kinds.specs.declared.steps.AtStep.{AtStep}
use Rattle.kinds.specs.Theory.{Theory}
use Rattle.kinds.specs.declared.answers.Clash.TheVariants.{TooFar}
use Rattle.kinds.specs.Bounded.{done_or_refused}
use Rattle.kinds.specs.Parts.{part}
use Rattle.kinds.specs.Sequences.{all_over, far_all_over}
use Rattle.kinds.proofs.Sequences.{commuted_lengths}
use Rattle.rows.specs.Pass.{Passed, passing, fault_of}
use Rattle.rows.specs.TakeOut.{taken, TakenOut}
use Rattle.rows.proofs.Passing.{forgotten}

-- what is done and not too far was commuted
done_is : {A : Type 0} (far : Bool) (o : Option A) (a : A) → cond far (Err TooFar) (done_or_refused o) ≡ Ok a → o ≡ Some a
done_is true o a e = absurd (let z : ◌≡◌ {A = ℕ} 0 1 = cc in omega arith)
done_is false None a e = absurd (let z : ◌≡◌ {A = ℕ} 0 1 = cc in omega arith)
done_is false (Some b) a e = cc

module _ {P F : Type 0} (T : Theory P F) where
  -- none is lost on the way
  pub lengths : (ps qs : List P) (s : List P × List P) → passing T ps qs ≡ Ok s → (length s.0 ≡ length qs) × (length s.1 ≡ length ps)
  lengths ps qs s e =
      commuted_lengths T ps qs s.0 s.1 (done_is (far_all_over T ps qs) (all_over T ps qs) s (sym (forgotten T ps qs) ∙ ap (part (λ x. x) fault_of) e))

  module _ (row : List P) (start count : ℕ) where
    pub nothing_there : length row ≤ start → TakenOut T row start count (Ok (length row)) row
    nothing_there h =
        let f : take start row ≡ row = take_all start row h in
        let b : drop start row ≡ [] = drop_all start row h in
        let n : length (row ++ []) ≡ length row = ap length (append-nil row) in
        subst (λ z. taken (take start row) (passing T (take count z) (drop count z)) (Ok (length row)) row) (sym b)
        (subst (λ z. taken z (passing T (take count []) (drop count [])) (Ok (length row)) row) (sym f)
        (rw (take-nil count, drop-nil count) (ap Ok (sym n), sym (append-nil (row ++ []) ∙ append-nil row))))

    module _ (h : start < length row) (left : List P) where
      -- all behind start is lent
      lent_is : between start (length row) row ≡ drop start row
      lent_is = between_to_end row start (length row) (omega arith)

      pub taken_there : (m : ℕ) → m ≡ min count (length row - start)
          → Passed (passing T (take count (between start (length row) row)) (drop count (between start (length row) row))) (Ok tt) left
          → TakenOut T row start count (Ok (length row - m)) (put_mid start (length row - start) row left)
      taken_there m is k = on (passing T (take count (drop start row)) (drop count (drop start row))) refl
          (subst (λ z. Passed (passing T (take count z) (drop count z)) (Ok tt) left) lent_is k)
        where
          put : put_mid start (length row - start) row left ≡ take start row ++ left
          put = ap (λ z. take start row ++ (left ++ z)) (drop_all (length row - start) (drop start row) (let l = length-drop start row in omega arith))
              ∙ ap (λ z. take start row ++ z) (append-nil left)

          on : (a : Result (List P × List P) (AtStep Clash)) → passing T (take count (drop start row)) (drop count (drop start row)) ≡ a → Passed a (Ok tt) left
              → taken (take start row) a (Ok (length row - m)) (put_mid start (length row - start) row left)
          on (Err d) e x = absurd (let z : ◌≡◌ {A = ℕ} 0 1 = cc in omega arith)
          on (Ok s) e x =
              let l = lengths (take count (drop start row)) (drop count (drop start row)) s e in
              let a = length-append (take start row) s.0 in
              let b = length-take-le start row (omega arith) in
              let c = length-drop count (drop start row) in
              let d = length-drop start row in
              (ap Ok (omega (arith, min-le_left count (length row - start))), put ∙ ap (λ z. take start row ++ z) x.1 ∙ sym (append_assoc (take start row) s.0 s.1))
