-- Needed changes brought to the front of a row, one step at a time.
use Rattle.std.proofs.Common.{◌≡◌, ℕ, ◌+◌, ◌-◌, ◌<◌, ◌≤◌, Bool, true, false, cond, eqb, ◌||◌, List, [], ◌∷◌, ◌++◌, length, get_or, Ok, Err, Result, sym, refl, ap, ◌∙◌, subst, append_assoc, arith, length-append}
use borrow.Rule.Slice.PartMut.{put_mid}
use Rattle.std.specs.List.{between, list_any}
use Rattle.std.proofs.lemmas.List.{append-nil}
use Rattle.kinds.specs.declared.answers.Clash.{Clash}
use Rattle.kinds.specs.Theory.{Theory}
use Rattle.kinds.specs.Sequences.{and_then, answer_over}
use Rattle.rows.specs.Pass.{Carried}
use Rattle.rows.proofs.Carrying.{Tried, clash}
use Rattle.rows.proofs.NextCarried.{lent_is, next_is, put_back, as_many, one_more}
use Rattle.histories.specs.History.{holds, gathered}
use Rattle.needs.specs.Gather.{ComeFirst}

-- whether a row holds the name n is whether any of it has it
pub any_held : {X : Type 0} (name : X → ℕ) (n : ℕ) (row : List X) → list_any (λ x. eqb (name x) n) row ≡ holds name row n
any_held name n [] = refl
any_held name n (x ∷ row) = ap (λ b. eqb (name x) n || b) (any_held name n row)

module _ {X F : Type 0} (T : Theory X F) (name : X → ℕ) (needs : List X) where
  -- with some in front
  abbrev ahead : List X → Result (List X × List X) Clash → Result (List X × List X) Clash
  ahead vs r = and_then r (λ s. Ok (vs ++ s.0, s.1))

  -- Of the row `was`, which is `row` now, the first i were met. Those k of them that are needed stand in front, and the other ones behind these.
  pub record Met (was row : List X) (k i : ℕ) : Type 0 where
    pub front : List X
    pub others : List X
    pub later : List X
    pub parts : row ≡ front ++ (others ++ later)
    pub so_many : length front ≡ k
    pub so_far : length front + length others ≡ i
    pub same : gathered T name needs [] was ≡ ahead front (gathered T name needs others later)

  module _ (was row : List X) (k i : ℕ) (met : Met was row k i) where
    -- at the end
    pub all_met : length row ≤ i → ComeFirst (gathered T name needs [] was) (Ok k) row
    all_met e = subst (λ r. ComeFirst r (Ok k) row) (sym met.same) (on met.later refl)
      where
        on : (later : List X) → met.later ≡ later → ComeFirst (ahead met.front (gathered T name needs met.others later)) (Ok k) row
        on [] z =
            let n : length (met.front ++ []) ≡ k = ap length (append-nil met.front) ∙ met.so_many in
            (ap Ok (sym n), met.parts ∙ ap (λ y. met.front ++ (met.others ++ y)) z ∙ ap (λ y. met.front ++ y) (append-nil met.others) ∙ ap (λ y. y ++ met.others) (sym (append-nil met.front)))
        on (c ∷ cs) z =
            absurd (let a = ap length met.parts ∙ length-append met.front (met.others ++ met.later) in let b = length-append met.others met.later in let d = ap length z in let f = met.so_far in omega arith)

    -- the next one, c
    record Next : Type 0 where
      c : X
      cs : List X
      is_later : met.later ≡ c ∷ cs
      parts : row ≡ met.front ++ (met.others ++ c ∷ cs)

    next : i < length row → Next
    next h = on met.later refl
      where
        on : (later : List X) → met.later ≡ later → Next
        on [] z =
            absurd (let a = ap length met.parts ∙ length-append met.front (met.others ++ met.later) in let b = length-append met.others met.later in let d = ap length z in let f = met.so_far in omega arith)
        on (c ∷ cs) z = record { c = c; cs = cs; is_later = z; parts = met.parts ∙ ap (λ y. met.front ++ (met.others ++ y)) z }

    module _ (h : i < length row) (x : X) where
      -- what is done, by whether it is needed
      abbrev done : Bool → Next → Result (List X × List X) Clash
      done b n = cond b (and_then (answer_over T met.others n.c) (λ s. and_then (gathered T name needs s.1 n.cs) (λ t. Ok (s.0 ∷ t.0, t.1)))) (gathered T name needs (met.others ++ n.c ∷ []) n.cs)

      at_next : (b : Bool) (n : Next) → b ≡ holds name needs (name (get_or row i x)) → gathered T name needs [] was ≡ ahead met.front (done b n)
      at_next b n f =
          met.same ∙ ap (λ y. ahead met.front (gathered T name needs met.others y)) n.is_later
          ∙ ap (λ y. ahead met.front (done y n)) (sym (f ∙ ap (λ y. holds name needs (name y)) (next_is row met.front met.others n.c n.cs k i n.parts met.so_many met.so_far x)))

      pub not_needed : false ≡ holds name needs (name (get_or row i x)) → Met was row k (i + 1)
      not_needed f =
          let n = next h in
          record {
            front = met.front;
            others = met.others ++ n.c ∷ [];
            later = n.cs;
            parts = n.parts ∙ ap (λ y. met.front ++ y) (sym (append_assoc met.others (n.c ∷ []) n.cs));
            so_many = met.so_many;
            so_far = let a = length-append met.others (n.c ∷ []) in let b = met.so_far in omega arith;
            same = at_next false n f;
          }

      -- it is needed, and was carried over the others
      module _ (f : true ≡ holds name needs (name (get_or row i x))) (mid : List X) (r : Result (Unit {0}) Clash) (tried : Tried T (between k (i + 1) row) r mid) where
        carried : (n : Next) → Carried (answer_over T met.others n.c) r mid
        carried n = tried met.others n.c (lent_is row met.front met.others n.c n.cs k i n.parts met.so_many met.so_far)

        pub stopped : (d : Clash) (left : List X) → r ≡ Err d → ComeFirst (gathered T name needs [] was) (Err d) left
        stopped d left e = let n = next h in subst (λ y. ComeFirst y (Err d) left) (sym (at_next true n f)) (on n (answer_over T met.others n.c) (carried n))
          where
            on : (n : Next) (a : Result (X × List X) Clash) → Carried a r mid
                → ComeFirst (ahead met.front (and_then a (λ s. and_then (gathered T name needs s.1 n.cs) (λ t. Ok (s.0 ∷ t.0, t.1))))) (Err d) left
            on n (Ok s) j = absurd (clash (sym e ∙ j.0))
            on n (Err y) j = let z : d ≡ y = cc in ap Err z

        pub came : r ≡ Ok tt → length mid ≡ length (between k (i + 1) row) → Met was (put_mid k (i + 1 - k) row mid) (k + 1) (i + 1)
        came e l = let n = next h in on n (answer_over T met.others n.c) refl (carried n)
          where
            -- one more stands in front
            moved : (s : X × List X) (t : Result (List X × List X) Clash) → ahead met.front (and_then t (λ t. Ok (s.0 ∷ t.0, t.1))) ≡ ahead (met.front ++ s.0 ∷ []) t
            moved s (Ok t) = ap (λ y. Ok (y, t.1)) (sym (append_assoc met.front (s.0 ∷ []) t.0))
            moved s (Err d) = refl

            on : (n : Next) (a : Result (X × List X) Clash) → answer_over T met.others n.c ≡ a → Carried a r mid → Met was (put_mid k (i + 1 - k) row mid) (k + 1) (i + 1)
            on n (Err d) q j = absurd (clash (sym j ∙ e))
            on n (Ok s) q (_, j) =
                record {
                  front = met.front ++ s.0 ∷ [];
                  others = s.1;
                  later = n.cs;
                  parts = put_back row met.front met.others n.c n.cs k i n.parts met.so_many met.so_far mid s.0 s.1 j l;
                  so_many = one_more row met.front met.others n.c n.cs k i n.parts met.so_many met.so_far mid s.0 s.1 j l;
                  so_far = let a = one_more row met.front met.others n.c n.cs k i n.parts met.so_many met.so_far mid s.0 s.1 j l in
                      let b = as_many row met.front met.others n.c n.cs k i n.parts met.so_many met.so_far mid s.0 s.1 j l in let d = met.so_many in let f = met.so_far in omega arith;
                  same = at_next true n f ∙ ap (λ y. ahead met.front (and_then y (λ s. and_then (gathered T name needs s.1 n.cs) (λ t. Ok (s.0 ∷ t.0, t.1))))) q ∙ moved s (gathered T name needs s.1 n.cs);
                }
