-- What the code answers for a sequence, from what it answers for the steps: the first step that stops is the whole's answer.
use Rattle.std.proofs.Common.{◌≡◌, ℕ, suc, ◌+◌, Bool, true, false, cond, ◌||◌, List, [], ◌∷◌, ◌++◌, length, Some, None, Ok, Err, Option, Result, sym, refl, ap, ◌∙◌, add-zero, zero-add, arith}
use Rattle.kinds.specs.declared.answers.Clash.{Clash}
use Rattle.kinds.specs.declared.answers.Clash.TheVariants.{TooFar}
use Rattle.kinds.specs.declared.answers.Failure.{Failure}
use Rattle.kinds.specs.declared.answers.Failure.TheVariants.{Length, Overfull, Fault}
use Rattle.kinds.specs.declared.steps.AtStep.{AtStep}
use Rattle.kinds.specs.Theory.{Theory}
use Rattle.kinds.specs.Bounded.{done_or_refused, done_or_fault, holding, answer, outcome, Applied}
use Rattle.kinds.specs.Laws.{Lawful}
use Rattle.kinds.specs.Parts.{part, failing}
use Rattle.kinds.specs.Sequences.{◌>>=◌, and_then, is_some_and, is_ok_and, found_at, apply_from, over, all_over, far_over, far_all_over, answer_over, full_along, sequences}

-- too far, or else done or refused
abbrev bounded : {A : Type 0} → Bool → Option A → Result A Clash
bounded b o = cond b (Err TooFar) (done_or_refused o)

then_bounded : {A B : Type 0} (b : Bool) (o : Option A) (c : A → Bool) (g : A → Option B) (f : A → Result B Clash)
    → ((a : A) → bounded (c a) (g a) ≡ f a) → bounded (b || is_some_and o c) (o >>= g) ≡ and_then (bounded b o) f
then_bounded true o c g f h = refl
then_bounded false None c g f h = refl
then_bounded false (Some a) c g f h = h a

last_bounded : {A B : Type 0} (b : Bool) (o : Option A) (f : A → B) → bounded b (o >>= λ a. Some (f a)) ≡ and_then (bounded b o) (λ a. Ok (f a))
last_bounded true o f = refl
last_bounded false None f = refl
last_bounded false (Some a) f = refl

then_ok : {A E : Type 0} (r : Result A E) → and_then r Ok ≡ r
then_ok (Ok a) = refl
then_ok (Err e) = refl

then_then : {A B C E : Type 0} (r : Result A E) (f : A → Result C E) (g : A → Result B E) (h : B → Result C E)
    → ((a : A) → f a ≡ and_then (g a) h) → and_then r f ≡ and_then (and_then r g) h
then_then (Ok a) f g h e = e a
then_then (Err x) f g h e = refl

-- the answer of the code, with the number of its step, where the words then hold e
holding_failing : {D F G : Type 0} (g : F → G) (r : Result (Unit {0}) (Failure F)) (e : D) → failing g (holding r e) ≡ holding (failing g r) e
holding_failing g (Ok u) e = refl
holding_failing g (Err Length) e = refl
holding_failing g (Err Overfull) e = refl
holding_failing g (Err (Fault f)) e = refl

module _ {P F : Type 0} (T : Theory P F) where
  open T use {Doc, apply, commute, far, full}

  -- one patch more on the left of q's way
  pub answer_over_more : (p : P) (ps : List P) (q : P)
      → answer_over T (p ∷ ps) q ≡ and_then (answer_over T ps q) (λ (q1, ps'). and_then (answer T p q1) (λ (q2, p'). Ok (q2, p' ∷ ps')))
  answer_over_more p ps q =
      then_bounded (far_over T ps q) (over T ps q) _ _ _ (λ (q1, ps'). last_bounded (far p q1) (commute p q1) (λ (q2, p'). (q2, p' ∷ ps')))

  -- the first of the patches on the right, and then the others
  pub answer_more : (ps : List P) (q : P) (qs : List P)
      → answer (sequences T) ps (q ∷ qs) ≡ and_then (answer_over T ps q) (λ (q', ps'). and_then (answer (sequences T) ps' qs) (λ (qs', ps''). Ok (q' ∷ qs', ps'')))
  answer_more ps q qs =
      then_bounded (far_over T ps q) (over T ps q) _ _ _ (λ (q', ps'). last_bounded (far_all_over T ps' qs) (all_over T ps' qs) (λ (qs', ps''). (q' ∷ qs', ps'')))

  -- the outcome where the first step has the number n
  abbrev pub outcome_from : ℕ → List P → Doc → Result Doc (Failure (AtStep F))
  outcome_from n ps d = cond (full_along T ps d) (Err Overfull) (done_or_fault (apply_from T n ps d))

  -- the first step, and then the others
  outcome_first : (n : ℕ) (p : P) (ps : List P) (d : Doc) → outcome_from n (p ∷ ps) d ≡ and_then (failing (found_at n) (outcome T p d)) (outcome_from (n + 1) ps)
  outcome_first n p ps d = by_cases (full p d) (apply p d)
    where
      by_cases : (b : Bool) (r : Result Doc F)
          → cond (b || is_ok_and r (full_along T ps)) (Err Overfull) (done_or_fault (and_then (part (λ e. e) (found_at n) r) (apply_from T (n + 1) ps)))
          ≡ and_then (failing (found_at n) (cond b (Err Overfull) (done_or_fault r))) (outcome_from (n + 1) ps)
      by_cases true r = refl
      by_cases false (Ok e) = refl
      by_cases false (Err f) = refl

  outcome_one : (n : ℕ) (p : P) (d : Doc) → outcome_from n (p ∷ []) d ≡ failing (found_at n) (outcome T p d)
  outcome_one n p d = outcome_first n p [] d ∙ then_ok _

  pub outcome_append : (n : ℕ) (ps qs : List P) (d : Doc) → outcome_from n (ps ++ qs) d ≡ and_then (outcome_from n ps d) (outcome_from (n + length ps) qs)
  outcome_append n [] qs d = rw add-zero
  outcome_append n (p ∷ ps) qs d =
      let k : n + 1 + length ps ≡ n + suc (length ps) = omega arith in
      outcome_first n p (ps ++ qs) d ∙ then_then _ _ (outcome_from (n + 1) ps) (outcome_from (n + suc (length ps)) qs) (λ e. rw (← k) (outcome_append (n + 1) ps qs e))
      ∙ ap (λ z. and_then z (outcome_from (n + suc (length ps)) qs)) (sym (outcome_first n p ps d))

  -- A run after one step, whatever it held. Nothing cites it yet.
  pub applied_one : (p : P) (was : List ℕ) (r : Result (Unit {0}) (Failure F)) (left : List ℕ)
      → Applied T p was r left → Applied (sequences T) (p ∷ []) was (failing (found_at 0) r) left
  applied_one p was r left a = record {
    refused = λ h. let (x, y) = a.refused h in (ap (failing (found_at 0)) x, y);
    done = λ d f w h. let (e, g, l, o) = a.done d f w h in (e, g, l, outcome_one 0 p d ∙ ap (failing (found_at 0)) o ∙ holding_failing (found_at 0) r e);
  }

  -- a run after steps that were stopped, whatever should have followed ...
  pub applied_stopped : (ps qs : List P) (was : List ℕ) (x : Failure (AtStep F)) (left : List ℕ)
      → Applied (sequences T) ps was (Err x) left → Applied (sequences T) (ps ++ qs) was (Err x) left
  applied_stopped ps qs was x left a = record {
    refused = a.refused;
    done = λ d f w h. let (e, g, l, o) = a.done d f w h in (e, g, l, outcome_append 0 ps qs d ∙ ap (λ z. and_then z (outcome_from (0 + length ps) qs)) o);
  }

  -- ... and after one step more
  pub applied_more : Lawful T → (ps : List P) (q : P) (was : List ℕ) (u : Unit {0}) (mid : List ℕ) (r : Result (Unit {0}) (Failure F)) (left : List ℕ)
      → Applied (sequences T) ps was (Ok u) mid → Applied T q mid r left → Applied (sequences T) (ps ++ q ∷ []) was (failing (found_at (length ps)) r) left
  applied_more L ps q was u mid r left a b = record {
    refused = λ h. let (x, _) = a.refused h in absurd (let z : ◌≡◌ {A = ℕ} 0 1 = cc in omega arith);
    done = λ d f w h.
        let (m, g, l, o) = a.done d f w h in
        let same : length was ≡ length mid = ap length w ∙ L.held_in_words.filled d f ∙ sym (L.held_in_words.filled m g) ∙ sym (ap length l) in
        let (e, g', l', o') = b.done m g l (rw (← same) h) in (
          e,
          g',
          l',
          outcome_append 0 ps (q ∷ []) d ∙ ap (λ z. and_then z (outcome_from (0 + length ps) (q ∷ []))) o
              ∙ rw zero-add (outcome_one (length ps) q m) ∙ ap (failing (found_at (length ps))) o' ∙ holding_failing (found_at (length ps)) r e,
        );
  }
