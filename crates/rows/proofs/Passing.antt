-- The first patches of a row, passed over the others.
use Rattle.std.proofs.Common.{◌≡◌, ℕ, ◌+◌, ◌-◌, ◌<◌, ◌≤◌, List, [], ◌∷◌, ◌++◌, length, take, drop, Ok, Err, Result, sym, refl, ap, ◌∙◌, subst, ⊎_elim, append_assoc, length-append, arith}
use borrow.Rule.Slice.PartMut.{put_mid}
use Rattle.std.specs.List.{between}
use Rattle.std.proofs.lemmas.Bool.{cases_lt}
use Rattle.std.proofs.lemmas.List.{take_all, take-append-drop, length-take-le, append-nil}
use Rattle.kinds.specs.declared.answers.Clash.{Clash}
use Rattle.kinds.specs.Theory.{Theory}
use Rattle.kinds.specs.Bounded.{answer}
use Rattle.kinds.specs.declared.steps.AtStep.{AtStep}
use Rattle.kinds.specs.Parts.{part}
use Rattle.kinds.specs.Sequences.{and_then, answer_over, found_at, sequences}
use Rattle.kinds.proofs.Stepwise.{answer_more}
use Rattle.rows.specs.Pass.{Carried, Passed, passing, fault_of, one_further, in_front}
use Rattle.rows.proofs.NextCarried.{lent_is, put_back, as_many, one_more}
use Rattle.rows.proofs.Carrying.{Tried, clash}

module _ {P F : Type 0} (T : Theory P F) where
  -- with some in front, of which each is one place more
  abbrev ahead : List P → ℕ → Result (List P × List P) (AtStep Clash) → Result (List P × List P) (AtStep Clash)
  ahead front n = part (λ s. (front ++ s.0, s.1)) (λ x. found_at (n + x.step) x.fault)

  -- The first m patches of the row `was` pass over the others. They were passed over the first n of these, and the row is `row` now.
  pub record Along (was : List P) (m : ℕ) (row : List P) (n : ℕ) : Type 0 where
    pub front : List P
    pub passing_on : List P
    pub later : List P
    pub parts : row ≡ front ++ (passing_on ++ later)
    pub so_many : length front ≡ n
    pub as_many : length passing_on ≡ length (take m was)
    pub same : passing T (take m was) (drop m was) ≡ ahead front n (passing T passing_on later)

  module _ (was : List P) (m : ℕ) where
    pub none_passed : Along was m was 0
    none_passed = record {
      front = [];
      passing_on = take m was;
      later = drop m was;
      parts = sym (take-append-drop m was);
      so_many = refl;
      as_many = refl;
      same = on (passing T (take m was) (drop m was));
    }
      where
        on : (r : Result (List P × List P) (AtStep Clash)) → r ≡ ahead [] 0 r
        on (Ok s) = refl
        on (Err x) = ap (λ k. Err (found_at k x.fault)) (omega arith)

    module _ (row : List P) (n : ℕ) (along : Along was m row n) where
      long : length row ≡ n + length (take m was) + length along.later
      long =
          ap length along.parts ∙ length-append along.front (along.passing_on ++ along.later)
          ∙ (let a = length-append along.passing_on along.later in let b = along.so_many in let c = along.as_many in omega arith)

      pub all_passed : length row ≡ length was → length row ≤ n + m → Passed (passing T (take m was) (drop m was)) (Ok tt) row
      all_passed l h = subst (λ r. Passed r (Ok tt) row) (sym along.same) (on along.later refl)
        where
          on : (later : List P) → along.later ≡ later → Passed (ahead along.front n (passing T along.passing_on later)) (Ok tt) row
          on [] z =
              (refl, along.parts ∙ ap (λ y. along.front ++ (along.passing_on ++ y)) z ∙ ap (λ y. along.front ++ y) (append-nil along.passing_on) ∙ ap (λ y. y ++ along.passing_on) (sym (append-nil along.front)))
          on (q ∷ qs) z =
              let a = long in
              let b = ap length z in
              absurd (⊎_elim (λ k. let c = length-take-le m was (omega arith) in omega arith) (λ k. let c = ap length (take_all m was k) in omega arith) (cases_lt m (length was)))

      -- the next of the others
      module _ (same_long : length row ≡ length was) (h : n + m < length row) (a : Result (Unit {0}) Clash) (mid : List P) (tried : Tried T (between n (n + m + 1) row) a mid) where
        abbrev Next : Type 0
        Next = (q : P) × (qs : List P) × (along.later ≡ q ∷ qs)

        next : Next
        next = on along.later refl
          where
            on : (later : List P) → along.later ≡ later → Next
            on [] z = absurd (let a = long in let b = ap length z in let c = length-take-le m was (omega arith) in omega arith)
            on (q ∷ qs) z = (q, qs, z)

        parts_are : (q : P) (qs : List P) → along.later ≡ q ∷ qs → row ≡ along.front ++ (along.passing_on ++ q ∷ qs)
        parts_are q qs z = along.parts ∙ ap (λ y. along.front ++ (along.passing_on ++ y)) z

        so_far : length along.front + length along.passing_on ≡ n + m
        so_far = let a = along.so_many in let b = along.as_many in let c = length-take-le m was (omega arith) in omega arith

        carried : (q : P) (qs : List P) → along.later ≡ q ∷ qs → Carried (answer_over T along.passing_on q) a mid
        carried q qs z = tried along.passing_on q (lent_is row along.front along.passing_on q qs n (n + m) (parts_are q qs z) along.so_many so_far)

        -- what they answer, if this one answers b
        abbrev then_others : List P → Result (P × List P) Clash → Result (List P × List P) (AtStep Clash)
        then_others qs b = ahead along.front n (and_then (part (λ s. s) (found_at 0) b) (λ s. part (in_front s.0) one_further (passing T s.1 qs)))

        pub stopped : (x : AtStep Clash) (left : List P) → part (λ u. u) (found_at n) a ≡ Err x → Passed (passing T (take m was) (drop m was)) (Err x) left
        stopped x left e =
            let (q, qs, z) = next in
            subst (λ r. Passed r (Err x) left) (sym (along.same ∙ ap (λ y. ahead along.front n (passing T along.passing_on y)) z)) (on a e qs (answer_over T along.passing_on q) (carried q qs z))
          where
            on : (a : Result (Unit {0}) Clash) → part (λ u. u) (found_at n) a ≡ Err x → (qs : List P) (b : Result (P × List P) Clash) → Carried b a mid → Passed (then_others qs b) (Err x) left
            on (Ok u) e qs b j = absurd (let z : ◌≡◌ {A = ℕ} 0 1 = cc in omega arith)
            on (Err c) e qs (Ok s) j = absurd (clash j.0)
            on (Err c) e qs (Err d) j = let y : c ≡ d = cc in sym e ∙ ap (λ c. Err (found_at n c)) y ∙ ap (λ k. Err (found_at k d)) (omega arith)

        pub one_passed : a ≡ Ok tt → length mid ≡ length (between n (n + m + 1) row) → Along was m (put_mid n (n + m + 1 - n) row mid) (n + 1)
        one_passed e l = let (q, qs, z) = next in on q qs z (answer_over T along.passing_on q) refl (carried q qs z)
          where
            moved : (q : P) (r : Result (List P × List P) (AtStep Clash)) → ahead along.front n (part (in_front q) one_further r) ≡ ahead (along.front ++ q ∷ []) (n + 1) r
            moved q (Ok t) = ap (λ y. Ok (y, t.1)) (sym (append_assoc along.front (q ∷ []) t.0))
            moved q (Err x) = ap (λ k. Err (found_at k x.fault)) (omega arith)

            on : (q : P) (qs : List P) → along.later ≡ q ∷ qs → (b : Result (P × List P) Clash) → answer_over T along.passing_on q ≡ b → Carried b a mid → Along was m (put_mid n (n + m + 1 - n) row mid) (n + 1)
            on q qs z (Err d) f j = absurd (clash (sym j ∙ e))
            on q qs z (Ok s) f (_, j) =
                record {
                  front = along.front ++ s.0 ∷ [];
                  passing_on = s.1;
                  later = qs;
                  parts = put_back row along.front along.passing_on q qs n (n + m) (parts_are q qs z) along.so_many so_far mid s.0 s.1 j l;
                  so_many = one_more row along.front along.passing_on q qs n (n + m) (parts_are q qs z) along.so_many so_far mid s.0 s.1 j l;
                  as_many = as_many row along.front along.passing_on q qs n (n + m) (parts_are q qs z) along.so_many so_far mid s.0 s.1 j l ∙ along.as_many;
                  same = along.same ∙ ap (λ y. ahead along.front n (passing T along.passing_on y)) z ∙ ap (then_others qs) f ∙ moved s.0 (passing T s.1 qs);
                }

  -- without the place, this is what the sequences answer
  pub forgotten : (ps qs : List P) → part (λ s. s) fault_of (passing T ps qs) ≡ answer (sequences T) ps qs
  forgotten ps [] = refl
  forgotten ps (q ∷ qs) = on (λ xs. forgotten xs qs) (answer_over T ps q) ∙ sym (answer_more T ps q qs)
    where
      inner : (s : P × List P) (b : Result (List P × List P) (AtStep Clash)) (c : Result (List P × List P) Clash) → part (λ t. t) fault_of b ≡ c
          → part (λ t. t) fault_of (part (in_front s.0) one_further b) ≡ and_then c (λ t. Ok (in_front s.0 t))
      inner s (Ok t) c e = ap (λ c. and_then c (λ t. Ok (in_front s.0 t))) e
      inner s (Err x) c e = ap (λ c. and_then c (λ t. Ok (in_front s.0 t))) e

      on : ((xs : List P) → part (λ s. s) fault_of (passing T xs qs) ≡ answer (sequences T) xs qs) → (a : Result (P × List P) Clash)
          → part (λ t. t) fault_of (and_then (part (λ s. s) (found_at 0) a) (λ s. part (in_front s.0) one_further (passing T s.1 qs)))
          ≡ and_then a (λ s. and_then (answer (sequences T) s.1 qs) (λ t. Ok (in_front s.0 t)))
      on below (Ok s) = inner s (passing T s.1 qs) (answer (sequences T) s.1 qs) (below s.1)
      on below (Err c) = refl

  -- what the one clause says by the other
  module _ (row : List P) (m : ℕ) (r : Result (Unit {0}) (AtStep Clash)) (left : List P) (h : Passed (passing T (take m row) (drop m row)) r left) where
    pub whole : Passed (answer (sequences T) (take m row) (drop m row)) (part (λ u. u) fault_of r) left
    whole = rw (← forgotten (take m row) (drop m row)) (on (passing T (take m row) (drop m row)) h)
      where
        on : (a : Result (List P × List P) (AtStep Clash)) → Passed a r left → Passed (part (λ s. s) fault_of a) (part (λ u. u) fault_of r) left
        on (Ok s) x = (ap (part (λ u. u) fault_of) x.0, x.1)
        on (Err c) x = ap (part (λ u. u) fault_of) x
