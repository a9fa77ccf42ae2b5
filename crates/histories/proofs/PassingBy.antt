-- The first changes of a row, passed over the others.
use Rattle.std.proofs.Common.{◌≡◌, ℕ, ◌+◌, ◌-◌, ◌<◌, List, [], ◌∷◌, ◌++◌, length, get_or, take, drop, Ok, Err, Result, sym, refl, ap, ◌∙◌, subst, append_assoc, arith, length-append}
use borrow.Rule.Slice.PartMut.{put_mid}
use Rattle.std.proofs.lemmas.List.{take_at, drop_at, append-nil, drop_all, length-drop, length-map}
use Rattle.std.proofs.lemmas.Slice.{between_to_end}
use Rattle.std.specs.List.{between}
use Rattle.kinds.specs.declared.answers.Clash.{Clash}
use Rattle.kinds.specs.declared.answers.Clash.TheVariants.{Refused, TooFar}
use Rattle.kinds.specs.Theory.{Theory}
use Rattle.kinds.specs.Parts.{part}
use Rattle.kinds.specs.Sequences.{and_then, answer_over}
use Rattle.rows.specs.Pass.{Carried, Passed}
use Rattle.rows.proofs.NextCarried.{lent_is, next_is, as_many, one_more, put_back}
use Rattle.rows.proofs.Carrying.{Tried, clash}
use Rattle.histories.specs.declared.Stop.{Stop}
use Rattle.histories.specs.declared.named.Named.{Named}
use Rattle.histories.specs.Named.{under, named, patches}
use Rattle.histories.specs.History.{stopped_at, passed}
use Rattle.histories.specs.Flat.{flat_of, flat, flat_both, ToEnd, passing_by}
use Rattle.histories.proofs.Flattening.{passing_flat, passing_lengths}

module _ {P F : Type 0} (T : Theory P F) where
  -- the first m changes of the row were passed over the others, which answered r and left this
  abbrev Passes : List (Named P) → ℕ → Result (Unit {0}) Stop → List (Named P) → Type 0
  Passes row m r left = (ps qs : List (Named P)) → row ≡ ps ++ qs → length ps ≡ m → Passed (passing_by T ps qs) r left

  -- with some in front
  abbrev ahead : List (Named P) → Result (List (Named P) × List (Named P)) Stop → Result (List (Named P) × List (Named P)) Stop
  ahead front r = and_then r (λ (qs, ps). Ok (front ++ qs, ps))

  -- The changes ps pass over qs. They were passed over the first n of these, and the row is `row` now.
  pub record Along (ps qs row : List (Named P)) (n : ℕ) : Type 0 where
    pub front : List (Named P)
    pub passing_on : List (Named P)
    pub later : List (Named P)
    pub parts : row ≡ front ++ (passing_on ++ later)
    pub so_many : length front ≡ n
    pub as_many : length passing_on ≡ length ps
    pub same : passing_by T ps qs ≡ ahead front (passing_by T passing_on later)

  abbrev pub Passing : List (Named P) → ℕ → List (Named P) → ℕ → Type 0
  Passing was m row n = (ps qs : List (Named P)) → was ≡ ps ++ qs → length ps ≡ m → Along ps qs row n

  module _ (was : List (Named P)) (m : ℕ) where
    pub none_passed : Passing was m was 0
    none_passed ps qs e l = record { front = []; passing_on = ps; later = qs; parts = e; so_many = refl; as_many = refl; same = on (passing_by T ps qs) }
      where
        on : (r : Result (List (Named P) × List (Named P)) Stop) → r ≡ ahead [] r
        on (Ok s) = refl
        on (Err x) = refl

    module _ (row : List (Named P)) (n : ℕ) (passing : Passing was m row n) where
      long : (ps qs : List (Named P)) → length ps ≡ m → (along : Along ps qs row n) → length row ≡ n + m + length along.later
      long ps qs l along =
          ap length along.parts ∙ length-append along.front (along.passing_on ++ along.later)
          ∙ (let a = length-append along.passing_on along.later in let b = along.so_many in let c = along.as_many in omega arith)

      -- the next of the others
      module _ (h : n + m < length row) (x : Named P) (a : Result (Unit {0}) Clash) (mid : List (Named P)) (tried : Tried (named T) (between n (n + m + 1) row) a mid) where
        -- what it is, and what is known of it
        abbrev Next : (ps qs : List (Named P)) → Along ps qs row n → Type 0
        Next ps qs along = (c : Named P) × (cs : List (Named P)) × (along.later ≡ c ∷ cs) × (row ≡ along.front ++ (along.passing_on ++ c ∷ cs)) × (length along.front + length along.passing_on ≡ n + m)

        next : (ps qs : List (Named P)) → length ps ≡ m → (along : Along ps qs row n) → Next ps qs along
        next ps qs l along = on along.later refl
          where
            on : (later : List (Named P)) → along.later ≡ later → Next ps qs along
            on [] z = absurd (let a = long ps qs l along in let b = ap length z in omega arith)
            on (c ∷ cs) z = (c, cs, z, along.parts ∙ ap (λ y. along.front ++ (along.passing_on ++ y)) z, let a = along.so_many in let b = along.as_many in omega arith)

        -- what they answer, if this one answers b
        abbrev then_others : List (Named P) → Named P → List (Named P) → Result (Named P × List (Named P)) Clash → Result (List (Named P) × List (Named P)) Stop
        then_others front c cs b =
            ahead front (and_then (part (λ s. s) (stopped_at (λ p. p.name) c) b) (λ (q', ps'). and_then (passing_by T ps' cs) (λ (qs', ps''). Ok (q' ∷ qs', ps''))))

        pub stopped : (stop : Stop) (left : List (Named P)) → part (λ u. u) (stopped_at (λ n. n) (get_or row (n + m) x).name) a ≡ Err stop → Passes was m (Err stop) left
        stopped stop left f ps qs e l =
            let along = passing ps qs e l in
            let (c, cs, z, parts, far) = next ps qs l along in
            subst (λ r. Passed r (Err stop) left) (sym (along.same ∙ ap (λ y. ahead along.front (passing_by T along.passing_on y)) z))
            (on along c cs a (ap (λ y. part (λ (u : Unit {0}). u) (stopped_at (λ n. n) y.name) a) (sym (next_is row along.front along.passing_on c cs n (n + m) parts along.so_many far x)) ∙ f)
            (answer_over (named T) along.passing_on c) (tried along.passing_on c (lent_is row along.front along.passing_on c cs n (n + m) parts along.so_many far)))
          where
            told : (c : Named P) (d : Clash) → stopped_at (λ n. n) c.name d ≡ stopped_at (λ (p : Named P). p.name) c d
            told c Refused = refl
            told c TooFar = refl

            on : (along : Along ps qs row n) (c : Named P) (cs : List (Named P)) (a : Result (Unit {0}) Clash) → part (λ u. u) (stopped_at (λ n. n) c.name) a ≡ Err stop
                → (b : Result (Named P × List (Named P)) Clash) → Carried b a mid → Passed (then_others along.front c cs b) (Err stop) left
            on along c cs (Ok u) f b j = absurd (let z : ◌≡◌ {A = ℕ} 0 1 = cc in omega arith)
            on along c cs (Err y) f (Ok s) j = absurd (clash j.0)
            on along c cs (Err y) f (Err d) j = let z : y ≡ d = cc in sym f ∙ ap Err (told c y ∙ ap (stopped_at (λ (p : Named P). p.name) c) z)

        pub one_passed : a ≡ Ok tt → length mid ≡ length (between n (n + m + 1) row) → Passing was m (put_mid n (n + m + 1 - n) row mid) (n + 1)
        one_passed e k ps qs i l =
            let along = passing ps qs i l in
            let (c, cs, z, parts, far) = next ps qs l along in
            on along c cs z parts far (answer_over (named T) along.passing_on c) refl (tried along.passing_on c (lent_is row along.front along.passing_on c cs n (n + m) parts along.so_many far))
          where
            moved : (front : List (Named P)) (q : Named P) (r : Result (List (Named P) × List (Named P)) Stop) → ahead front (and_then r (λ (qs', ps''). Ok (q ∷ qs', ps''))) ≡ ahead (front ++ q ∷ []) r
            moved front q (Ok t) = ap (λ y. Ok (y, t.1)) (sym (append_assoc front (q ∷ []) t.0))
            moved front q (Err x) = refl

            on : (along : Along ps qs row n) (c : Named P) (cs : List (Named P)) → along.later ≡ c ∷ cs → row ≡ along.front ++ (along.passing_on ++ c ∷ cs) → length along.front + length along.passing_on ≡ n + m
                → (b : Result (Named P × List (Named P)) Clash) → answer_over (named T) along.passing_on c ≡ b → Carried b a mid → Along ps qs (put_mid n (n + m + 1 - n) row mid) (n + 1)
            on along c cs z parts far (Err d) f j = absurd (clash (sym j ∙ e))
            on along c cs z parts far (Ok s) f (_, j) =
                record {
                  front = along.front ++ s.0 ∷ [];
                  passing_on = s.1;
                  later = cs;
                  parts = put_back row along.front along.passing_on c cs n (n + m) parts along.so_many far mid s.0 s.1 j k;
                  so_many = one_more row along.front along.passing_on c cs n (n + m) parts along.so_many far mid s.0 s.1 j k;
                  as_many = as_many row along.front along.passing_on c cs n (n + m) parts along.so_many far mid s.0 s.1 j k ∙ along.as_many;
                  same = along.same ∙ ap (λ y. ahead along.front (passing_by T along.passing_on y)) z ∙ ap (then_others along.front c cs) f ∙ moved along.front s.0 (passing_by T s.1 cs);
                }

  -- a patch of a row, passed over all behind it
  module _ (row rest : List (Named P)) (start count : ℕ) where
    -- all from start on was lent, and written back
    behind_is : (before behind : List (Named P)) → row ≡ before ++ behind → length before ≡ start → between start (length row) row ≡ behind
    behind_is before behind e l = between_to_end row start (length row) (omega arith) ∙ ap (drop start) e ∙ drop_at before behind start l

    pub put_is : (before behind : List (Named P)) → row ≡ before ++ behind → length before ≡ start → put_mid start (length row - start) row rest ≡ before ++ rest
    put_is before behind e l =
        let long : length row ≡ start + length behind = ap length e ∙ length-append before behind ∙ omega arith in
        let front : take start row ≡ before = ap (take start) e ∙ take_at before behind start l in
        let none : drop (length row - start) (drop start row) ≡ [] = drop_all (length row - start) (drop start row) (let k = length-drop start row in omega arith) in
        ap (λ z. take start row ++ (rest ++ z)) none ∙ ap (λ z. take start row ++ z) (append-nil rest) ∙ ap (λ z. z ++ rest) front

    module _ (r : Result (Unit {0}) Stop) (told : Result ℕ Stop) where
      -- what was passed, seen as a part of the whole row
      abbrev Ends : Type 0
      Ends = (before : List (Named P)) (p : Named (List P)) (h : List (Named (List P))) → row ≡ before ++ (flat_of p ++ flat h) → length before ≡ start → length p.changes ≡ count
          → ToEnd before (flat_both (passed (patches T) (λ w. w.name) p h)) told (put_mid start (length row - start) row rest)

      pub at_end : part (λ u. length row - count) (λ x. x) r ≡ told → Passes (between start (length row) row) count r rest → Ends
      at_end i j before p h e l k =
          subst (λ z. ToEnd before z told (put_mid start (length row - start) row rest)) (passing_flat T p h)
          (on (passing_by T (flat_of p) (flat h)) refl (j (flat_of p) (flat h) (behind_is before (flat_of p ++ flat h) e l) (length-map p.changes (under p.name) ∙ k)))
        where
          on : (a : Result (List (Named P) × List (Named P)) Stop) → passing_by T (flat_of p) (flat h) ≡ a → Passed a r rest → ToEnd before a told (put_mid start (length row - start) row rest)
          on (Err x) f m = sym i ∙ ap (part (λ u. length row - count) (λ x. x)) m
          on (Ok s) f m =
              let (b, _) = passing_lengths T (flat_of p) (flat h) s f in
              let n : length row - count ≡ length (before ++ s.0) =
              omega (arith, ap length e ∙ length-append before (flat_of p ++ flat h), length-append (flat_of p) (flat h), length-append before s.0, length-map p.changes (under p.name)) in (
                sym i ∙ ap (part (λ u. length row - count) (λ x. x)) m.0 ∙ ap Ok n,
                put_is before (flat_of p ++ flat h) e l ∙ ap (λ z. before ++ z) m.1 ∙ sym (append_assoc before s.0 s.1),
              )
