-- Needed patches brought to the front of a history, as it is done with their changes in a flat row.
use Rattle.std.proofs.Common.{◌≡◌, ℕ, Bool, true, false, cond, List, [], ◌∷◌, ◌++◌, map, Some, Ok, Err, Option, Result, sym, refl, ap, ◌∙◌, subst, append_assoc, append-nil, arith}
use Rattle.std.specs.Result.{result_ok}
use Rattle.kinds.specs.declared.answers.Clash.{Clash}
use Rattle.kinds.specs.Theory.{Theory}
use Rattle.kinds.specs.Bounded.{answer}
use Rattle.kinds.specs.Parts.{part}
use Rattle.kinds.specs.Sequences.{◌>>=◌, and_then, answer_over, sequences}
use Rattle.histories.specs.declared.Stop.{Stop}
use Rattle.histories.specs.declared.named.Named.{Named}
use Rattle.histories.specs.Named.{under, named, patches}
use Rattle.histories.specs.History.{holds, stopped_at, gathered}
use Rattle.histories.specs.Flat.{flat_of, flat}
use Rattle.histories.proofs.Flattening.{named_sequences, commuted_changes}
use Rattle.needs.specs.Gather.{ComeFirst, Gathers}
use Rattle.needs.proofs.GatheringOrder.{then_some, then_same, then_then, ok_both, joined, before, one_done, pair_done, all_done, then_pair, then_rest, then_all, one_more, all_more, over_none, all_over_parts}

-- what is done, seen in another way
ok_part : {A B E G : Type 0} (f : A → B) (g : E → G) (r : Result A E) → result_ok (part f g r) ≡ (result_ok r >>= λ a. Some (f a))
ok_part f g (Ok a) = refl
ok_part f g (Err e) = refl

flat_append : {P : Type 0} (us : List (Named (List P))) (p : Named (List P)) → flat (us ++ p ∷ []) ≡ flat us ++ flat_of p
flat_append [] p = append-nil (flat_of p)
flat_append (u ∷ us) p = ap (λ z. flat_of u ++ z) (flat_append us p) ∙ sym (append_assoc (flat_of u) (flat us) (flat_of p))

module _ {P F : Type 0} (T : Theory P F) where
  abbrev N : Theory (Named P) F
  N = named T

  abbrev by_name : {X : Type 0} → Named X → ℕ
  by_name p = p.name

  -- patches and changes, those in front and those behind
  abbrev Patches : Type 0
  Patches = List (Named (List P)) × List (Named (List P))

  abbrev Changes : Type 0
  Changes = List (Named P) × List (Named P)

  -- two patches, flat; a patch and some; and some and some
  abbrev flat_two : Named (List P) × Named (List P) → Option Changes
  flat_two s = Some (flat_of s.0, flat_of s.1)

  abbrev flat_one : Named (List P) × List (Named (List P)) → Option Changes
  flat_one s = Some (flat_of s.0, flat s.1)

  abbrev flat_all : Patches → Option Changes
  flat_all s = Some (flat s.0, flat s.1)

  -- two patches commute as their changes do
  module _ (u p : Named (List P)) where
    abbrev both_changes : Result (List P × List P) Clash
    both_changes = answer (sequences T) u.changes p.changes

    abbrev under_both : List P × List P → Named (List P) × Named (List P)
    under_both s = (under p.name s.0, under u.name s.1)

    abbrev stops : Clash → Stop
    stops = stopped_at by_name u

    pair_by_changes : pair_done (patches T) u p ≡ (result_ok both_changes >>= λ s. Some (under_both s))
    pair_by_changes =
        then_some (pair_done (patches T) u p) ∙ sym (ok_part (λ r. r) stops (answer (patches T) u p)) ∙ ap result_ok (commuted_changes T u u p) ∙ ok_part under_both stops both_changes

    changes_commute : all_done N (flat_of u) (flat_of p) ≡ (pair_done (patches T) u p >>= flat_two)
    changes_commute =
        ap result_ok (named_sequences T u.name p.name u.changes p.changes)
        ∙ ok_part (λ (s : List P × List P). (map (under p.name) s.0, map (under u.name) s.1)) (λ c. c) both_changes
        ∙ sym (ap (λ (o : Option (Named (List P) × Named (List P))). o >>= flat_two) pair_by_changes ∙ then_then (result_ok both_changes) (λ s. Some (under_both s)) flat_two)

  -- a patch passes left over a history as its changes pass over those of the history
  changes_over : (us : List (Named (List P))) (p : Named (List P)) → all_done N (flat us) (flat_of p) ≡ (one_done (patches T) us p >>= flat_one)
  changes_over [] p = over_none N (flat_of p)
  changes_over (u ∷ us) p =
      all_over_parts N (flat_of u) (flat us) (flat_of p)
      ∙ ap (λ (o : Option Changes). o >>= then_all N (flat_of u)) (changes_over us p)
      ∙ then_then (one_done (patches T) us p) flat_one (then_all N (flat_of u)) ∙ then_same (one_done (patches T) us p) step
      ∙ sym (ap (λ (o : Option (Named (List P) × List (Named (List P)))). o >>= flat_one) (one_more (patches T) u us p) ∙ then_then (one_done (patches T) us p) (then_pair (patches T) u) flat_one)
    where
      step : (s : Named (List P) × List (Named (List P))) → (all_done N (flat_of u) (flat_of s.0) >>= joined (flat_of s.0, flat s.1)) ≡ (then_pair (patches T) u s >>= flat_one)
      step s =
          ap (λ (o : Option Changes). o >>= joined (flat_of s.0, flat s.1)) (changes_commute u s.0)
          ∙ then_then (pair_done (patches T) u s.0) flat_two (joined (flat_of s.0, flat s.1))
          ∙ sym (then_then (pair_done (patches T) u s.0) (λ t. Some (t.0, t.1 ∷ s.1)) flat_one)

  -- the changes of one patch, in front of others, by the names of the changes ns
  module _ (ns : List (Named P)) where
    abbrev brought : List (Named P) → List (Named P) → Result Changes Clash
    brought = gathered N by_name ns

    -- what came to the front, and then the needed ones of cs
    abbrev before_all : Changes → Changes → Option Changes
    before_all s t = Some (s.0 ++ t.0, t.1)

    abbrev then_brought : List (Named P) → Changes → Option Changes
    then_brought cs s = result_ok (brought s.1 cs) >>= before_all s

    -- a change that is met, by whether it is needed
    abbrev met : Bool → List (Named P) → Named P → List (Named P) → Result Changes Clash
    met b us c cs = cond b (and_then (answer_over N us c) (λ s. and_then (brought s.1 cs) (λ t. Ok (s.0 ∷ t.0, t.1)))) (brought (us ++ c ∷ []) cs)

    all_needed : (n : ℕ) → holds by_name ns n ≡ true → (us : List (Named P)) (xs : List P) (cs : List (Named P))
        → result_ok (brought us (map (under n) xs ++ cs)) ≡ (all_done N us (map (under n) xs) >>= then_brought cs)
    all_needed n h us [] cs = then_some (result_ok (brought us cs))
    all_needed n h us (x ∷ xs) cs =
        ap (λ b. result_ok (met b us (under n x) (map (under n) xs ++ cs))) h
        ∙ ok_both (answer_over N us (under n x)) (λ s. brought s.1 (map (under n) xs ++ cs)) (λ s t. (s.0 ∷ t.0, t.1))
        ∙ then_same (one_done N us (under n x)) (step (λ ys. all_needed n h ys xs cs))
        ∙ sym (ap (λ (o : Option Changes). o >>= then_brought cs) (all_more N us (under n x) (map (under n) xs))
        ∙ then_then (one_done N us (under n x)) (then_rest N (map (under n) xs)) (then_brought cs))
      where
        step : ((ys : List (Named P)) → result_ok (brought ys (map (under n) xs ++ cs)) ≡ (all_done N ys (map (under n) xs) >>= then_brought cs)) → (s : Named P × List (Named P))
            → (result_ok (brought s.1 (map (under n) xs ++ cs)) >>= before s) ≡ (then_rest N (map (under n) xs) s >>= then_brought cs)
        step below s =
            ap (λ (o : Option Changes). o >>= before s) (below s.1)
            ∙ then_then (all_done N s.1 (map (under n) xs)) (then_brought cs) (before s)
            ∙ then_same (all_done N s.1 (map (under n) xs)) (λ a. then_then (result_ok (brought a.1 cs)) (before_all a) (before s))
            ∙ sym (then_then (all_done N s.1 (map (under n) xs)) (before s) (then_brought cs))

    none_needed : (n : ℕ) → holds by_name ns n ≡ false → (us : List (Named P)) (xs : List P) (cs : List (Named P)) → brought us (map (under n) xs ++ cs) ≡ brought (us ++ map (under n) xs) cs
    none_needed n h us [] cs = ap (λ z. brought z cs) (sym (append-nil us))
    none_needed n h us (x ∷ xs) cs =
        ap (λ b. met b us (under n x) (map (under n) xs ++ cs)) h
        ∙ none_needed n h (us ++ under n x ∷ []) xs cs ∙ ap (λ z. brought z cs) (append_assoc us (under n x ∷ []) (map (under n) xs))

    -- the patches ws have the names of the changes ns
    module _ (ws : List (Named (List P))) (same : (n : ℕ) → holds by_name ws n ≡ holds by_name ns n) where
      abbrev fetched : List (Named (List P)) → List (Named (List P)) → Result Patches Clash
      fetched = gathered (patches T) by_name ws

      abbrev Alike : List (Named (List P)) → List (Named (List P)) → Type 0
      Alike us h = result_ok (brought (flat us) (flat h)) ≡ (result_ok (fetched us h) >>= flat_all)

      changes_gathered : (us h : List (Named (List P))) → Alike us h
      changes_gathered us [] = refl
      changes_gathered us (p ∷ h) = by_test (holds by_name ws p.name) refl (λ ys. changes_gathered ys h)
        where
          step : ((ys : List (Named (List P))) → Alike ys h) → (s : Named (List P) × List (Named (List P)))
              → (result_ok (brought (flat s.1) (flat h)) >>= before_all (flat_of s.0, flat s.1)) ≡ ((result_ok (fetched s.1 h) >>= before s) >>= flat_all)
          step below s =
              ap (λ (o : Option Changes). o >>= before_all (flat_of s.0, flat s.1)) (below s.1)
              ∙ then_then (result_ok (fetched s.1 h)) flat_all (before_all (flat_of s.0, flat s.1))
              ∙ sym (then_then (result_ok (fetched s.1 h)) (before s) flat_all)

          by_test : (b : Bool) → holds by_name ws p.name ≡ b → ((ys : List (Named (List P))) → Alike ys h)
              → result_ok (brought (flat us) (flat_of p ++ flat h))
              ≡ (result_ok (cond b (and_then (answer_over (patches T) us p) (λ s. and_then (fetched s.1 h) (λ t. Ok (s.0 ∷ t.0, t.1)))) (fetched (us ++ p ∷ []) h)) >>= flat_all)
          by_test true e below =
              all_needed p.name (sym (same p.name) ∙ e) (flat us) p.changes (flat h)
              ∙ ap (λ (o : Option Changes). o >>= then_brought (flat h)) (changes_over us p)
              ∙ then_then (one_done (patches T) us p) flat_one (then_brought (flat h)) ∙ then_same (one_done (patches T) us p) (step below)
              ∙ sym (ap (λ (o : Option Patches). o >>= flat_all) (ok_both (answer_over (patches T) us p) (λ s. fetched s.1 h) (λ s t. (s.0 ∷ t.0, t.1)))
              ∙ then_then (one_done (patches T) us p) (λ s. result_ok (fetched s.1 h) >>= before s) flat_all)
          by_test false e below =
              ap result_ok (none_needed p.name (sym (same p.name) ∙ e) (flat us) p.changes (flat h) ∙ ap (λ z. brought z (flat h)) (sym (flat_append us p))) ∙ below (us ++ p ∷ [])

      -- what the changes do says what the patches do
      pub of_changes : (us h : List (Named (List P))) (r : Result ℕ Clash) (left : List (Named P)) → ComeFirst (brought (flat us) (flat h)) r left → Gathers (fetched us h) r left
      of_changes us h r left = on (brought (flat us) (flat h)) (fetched us h) (changes_gathered us h)
        where
          on : (a : Result Changes Clash) (b : Result Patches Clash) → result_ok a ≡ (result_ok b >>= flat_all) → ComeFirst a r left → Gathers b r left
          on (Ok s) (Ok t) e c = let z : s ≡ (flat t.0, flat t.1) = cc in subst (λ (y : Changes). ComeFirst (Ok y) r left) z c
          on (Ok s) (Err x) e c = absurd (let z : ◌≡◌ {A = ℕ} 0 1 = cc in omega arith)
          on (Err x) (Ok t) e c = absurd (let z : ◌≡◌ {A = ℕ} 0 1 = cc in omega arith)
          on (Err x) (Err y) e c = (x, c)

    -- ... in any row, for the patches of any history that it holds
    pub of_row : (was : List (Named P)) (r : Result ℕ Clash) (left : List (Named P)) → ComeFirst (brought [] was) r left
        → (ws h : List (Named (List P))) → ((n : ℕ) → holds by_name ws n ≡ holds by_name ns n) → was ≡ flat h → Gathers (gathered (patches T) by_name ws [] h) r left
    of_row was r left k ws h same e = of_changes ws same [] h r left (rw e at k)
