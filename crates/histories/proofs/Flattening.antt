-- What is done with patches, as it is done with their changes in a flat row.
use Rattle.std.proofs.Common.{◌≡◌, ℕ, suc, ◌+◌, Bool, true, false, cond, List, [], ◌∷◌, ◌++◌, map, length, Some, None, Ok, Err, Option, Result, sym, refl, ap, ◌∙◌, append_assoc, arith}
use Rattle.std.proofs.lemmas.List.{map-append}
use Rattle.std.specs.List.{slice_get}
use Rattle.kinds.specs.declared.answers.Clash.{Clash}
use Rattle.kinds.specs.declared.answers.Clash.TheVariants.{Refused, TooFar}
use Rattle.kinds.specs.declared.steps.AtStep.{AtStep}
use Rattle.kinds.specs.Theory.{Theory}
use Rattle.kinds.specs.Bounded.{answer, done_or_refused}
use Rattle.kinds.specs.Parts.{both, part}
use Rattle.kinds.specs.Sequences.{◌>>=◌, and_then, inverses, answer_over, all_over, far_all_over, found_at, sequences}
use Rattle.kinds.specs.Restricted.{both_read}
use Rattle.kinds.proofs.Stepwise.{answer_over_more, answer_more}
use Rattle.rows.specs.Pass.{one_further, in_front, passing}
use Rattle.rows.proofs.Taking.{lengths}
use Rattle.histories.specs.declared.Stop.{Stop}
use Rattle.histories.specs.declared.Stop.TheVariants.{TooFar as Far}
use Rattle.histories.specs.declared.named.Named.{Named}
use Rattle.histories.specs.Named.{under, named, patches}
use Rattle.histories.specs.History.{stopped_at, commuted_at, passed}
use Rattle.histories.specs.Flat.{flat_of, flat, flat_both, passing_by}

-- two answers in turn, seen in another way
seen_then : {A B C D E : Type 0} (f : A → C) (k : B → D) (r : Result A E) (g : A → Result B E) (h : C → Result D E)
    → ((a : A) → h (f a) ≡ part k (λ x. x) (g a)) → and_then (part f (λ x. x) r) h ≡ part k (λ x. x) (and_then r g)
seen_then f k (Ok a) g h e = e a
seen_then f k (Err x) g h e = refl

-- a history and then another
pub flat_append : {P : Type 0} (h k : List (Named (List P))) → flat (h ++ k) ≡ flat h ++ flat k
flat_append [] k = refl
flat_append (p ∷ h) k = ap (λ z. flat_of p ++ z) (flat_append h k) ∙ sym (append_assoc (flat_of p) (flat h) (flat k))

module _ {P F : Type 0} (T : Theory P F) where
  abbrev N : Theory (Named P) F
  N = named T

  abbrev by_name : Named P → ℕ
  by_name p = p.name

  -- two changes under their names
  abbrev pair : ℕ → ℕ → P × P → Named P × Named P
  pair m n r = (under m r.0, under n r.1)

  named_answer : (n m : ℕ) (p q : P) → answer N (under n p) (under m q) ≡ part (pair m n) (λ c. c) (answer T p q)
  named_answer n m p q = go (T.far p q) (T.commute p q)
    where
      go : (b : Bool) (o : Option (P × P))
          → cond b (Err TooFar) (done_or_refused (both (under m) (under n) o)) ≡ part (pair m n) (λ c. c) (cond b (Err TooFar) (done_or_refused o))
      go true o = refl
      go false None = refl
      go false (Some r) = refl

  -- one change, and some
  abbrev one_some : ℕ → ℕ → P × List P → Named P × List (Named P)
  one_some m n r = (under m r.0, map (under n) r.1)

  abbrev one_more : P × List P → P × P → P × List P
  one_more s t = (t.0, t.1 ∷ s.1)

  pub named_over : (n m : ℕ) (ps : List P) (q : P) → answer_over N (map (under n) ps) (under m q) ≡ part (one_some m n) (λ c. c) (answer_over T ps q)
  named_over n m [] q = refl
  named_over n m (p ∷ ps) q =
      answer_over_more N (under n p) (map (under n) ps) (under m q)
      ∙ ap (λ z. and_then z (λ (q1, ps'). and_then (answer N (under n p) q1) (λ (q2, p'). Ok (q2, p' ∷ ps')))) (named_over n m ps q)
      ∙ seen_then (one_some m n) (one_some m n) (answer_over T ps q) (λ s. and_then (answer T p s.0) (λ t. Ok (one_more s t))) _ step
      ∙ sym (ap (part (one_some m n) (λ c. c)) (answer_over_more T p ps q))
    where
      step : (s : P × List P) → and_then (answer N (under n p) (under m s.0)) (λ (q2, p'). Ok (q2, p' ∷ map (under n) s.1))
          ≡ part (one_some m n) (λ c. c) (and_then (answer T p s.0) (λ t. Ok (one_more s t)))
      step s = ap (λ z. and_then z (λ (q2, p'). Ok (q2, p' ∷ map (under n) s.1))) (named_answer n m p s.0)
          ∙ seen_then (pair m n) (one_some m n) (answer T p s.0) (λ t. Ok (one_more s t)) _ (λ t. refl)

  -- what stands in front then, and what was passed behind it
  abbrev Rows : Type 0
  Rows = List (Named P) × List (Named P)

  -- with one more in front, or some
  abbrev ahead : Named P → Result Rows Stop → Result Rows Stop
  ahead q r = and_then r (λ (qs', ps'). Ok (q ∷ qs', ps'))

  abbrev all_ahead : List (Named P) → Result Rows Stop → Result Rows Stop
  all_ahead qs r = and_then r (λ (rs', ps'). Ok (qs ++ rs', ps'))

  -- over others, after some
  abbrev then_over : List (Named P) → Result Rows Stop → Result Rows Stop
  then_over rs r = and_then r (λ (qs', ps'). all_ahead qs' (passing_by T ps' rs))

  passing_append : (ps qs rs : List (Named P)) → passing_by T ps (qs ++ rs) ≡ then_over rs (passing_by T ps qs)
  passing_append ps [] rs = unit (passing_by T ps rs)
    where
      unit : (r : Result Rows Stop) → r ≡ all_ahead [] r
      unit (Ok s) = refl
      unit (Err x) = refl
  passing_append ps (q ∷ qs) rs = on (λ xs. passing_append xs qs rs) (part (λ s. s) (stopped_at by_name q) (answer_over N ps q))
    where
      last : (q' : Named P) (xs : List (Named P)) (r : Result Rows Stop) → ahead q' (all_ahead xs r) ≡ all_ahead (q' ∷ xs) r
      last q' xs (Ok t) = refl
      last q' xs (Err x) = refl

      inner : (q' : Named P) (r : Result Rows Stop) → ahead q' (then_over rs r) ≡ then_over rs (ahead q' r)
      inner q' (Err x) = refl
      inner q' (Ok s) = last q' s.0 (passing_by T s.1 rs)

      on : ((xs : List (Named P)) → passing_by T xs (qs ++ rs) ≡ then_over rs (passing_by T xs qs)) → (a : Result (Named P × List (Named P)) Stop)
          → and_then a (λ (q', ps'). ahead q' (passing_by T ps' (qs ++ rs))) ≡ then_over rs (and_then a (λ (q', ps'). ahead q' (passing_by T ps' qs)))
      on below (Err x) = refl
      on below (Ok s) = ap (ahead s.0) (below s.1) ∙ inner s.0 (passing_by T s.1 qs)

  -- what stops a patch at one of this name
  abbrev stop_by : ℕ → Clash → Stop
  stop_by = stopped_at (λ n. n)

  abbrev some_some : ℕ → ℕ → List P × List P → List (Named P) × List (Named P)
  some_some m n r = (map (under m) r.0, map (under n) r.1)

  -- all changes of one patch
  passing_one : (n m : ℕ) (ps qs : List P) → passing_by T (map (under n) ps) (map (under m) qs) ≡ part (some_some m n) (stop_by m) (answer (sequences T) ps qs)
  passing_one n m ps [] = refl
  passing_one n m ps (q ∷ qs) =
      ap (λ z. and_then (part (λ s. s) (stopped_at by_name (under m q)) z) (λ (q', ps'). ahead q' (passing_by T ps' (map (under m) qs))))
      (named_over n m ps q)
      ∙ on (λ xs. passing_one n m xs qs) (answer_over T ps q) ∙ sym (ap (part (some_some m n) (stop_by m)) (answer_more T ps q qs))
    where
      inner : (s : P × List P) (b : Result (List P × List P) Clash)
          → ahead (under m s.0) (part (some_some m n) (stop_by m) b) ≡ part (some_some m n) (stop_by m) (and_then b (λ (qs', ps''). Ok (s.0 ∷ qs', ps'')))
      inner s (Ok t) = refl
      inner s (Err c) = refl

      on : ((xs : List P) → passing_by T (map (under n) xs) (map (under m) qs) ≡ part (some_some m n) (stop_by m) (answer (sequences T) xs qs)) → (a : Result (P × List P) Clash)
          → and_then (part (λ s. s) (stopped_at by_name (under m q)) (part (one_some m n) (λ c. c) a)) (λ (q', ps'). ahead q' (passing_by T ps' (map (under m) qs)))
          ≡ part (some_some m n) (stop_by m) (and_then a (λ (q', ps'). and_then (answer (sequences T) ps' qs) (λ (qs', ps''). Ok (q' ∷ qs', ps''))))
      on below (Err Refused) = refl
      on below (Err TooFar) = refl
      on below (Ok s) = ap (ahead (under m s.0)) (below s.1) ∙ inner s (answer (sequences T) s.1 qs)

  -- as sequences
  pub named_sequences : (n m : ℕ) (ps qs : List P) → answer (sequences N) (map (under n) ps) (map (under m) qs) ≡ part (some_some m n) (λ c. c) (answer (sequences T) ps qs)
  named_sequences n m ps [] = refl
  named_sequences n m ps (q ∷ qs) =
      answer_more N (map (under n) ps) (under m q) (map (under m) qs)
      ∙ ap (λ z. and_then z (λ (q', ps'). and_then (answer (sequences N) ps' (map (under m) qs)) (λ (qs', ps''). Ok (q' ∷ qs', ps'')))) (named_over n m ps q)
      ∙ seen_then (one_some m n) (some_some m n) (answer_over T ps q) (λ (q', ps'). and_then (answer (sequences T) ps' qs) (λ (qs', ps''). Ok (q' ∷ qs', ps''))) _ (step (λ xs. named_sequences n m xs qs))
      ∙ sym (ap (part (some_some m n) (λ c. c)) (answer_more T ps q qs))
    where
      step : ((xs : List P) → answer (sequences N) (map (under n) xs) (map (under m) qs) ≡ part (some_some m n) (λ c. c) (answer (sequences T) xs qs))
          → (s : P × List P) → and_then (answer (sequences N) (map (under n) s.1) (map (under m) qs)) (λ (qs', ps''). Ok (under m s.0 ∷ qs', ps''))
          ≡ part (some_some m n) (λ c. c) (and_then (answer (sequences T) s.1 qs) (λ (qs', ps''). Ok (s.0 ∷ qs', ps'')))
      step below s = ap (λ z. and_then z (λ (qs', ps''). Ok (under m s.0 ∷ qs', ps''))) (below s.1)
          ∙ seen_then (some_some m n) (some_some m n) (answer (sequences T) s.1 qs) (λ (qs', ps''). Ok (s.0 ∷ qs', ps'')) _ (λ t. refl)

  pub named_inverses : (n : ℕ) (ps : List P) → inverses N (map (under n) ps) ≡ map (under n) (inverses T ps)
  named_inverses n [] = refl
  named_inverses n (p ∷ ps) = ap (λ z. z ++ under n (T.invert p) ∷ []) (named_inverses n ps) ∙ sym (map-append (under n) (inverses T ps) (T.invert p ∷ []))

  -- two patches commute as the sequences of their changes do
  pub commuted_changes : (w p q : Named (List P)) → commuted_at (patches T) (λ w. w.name) w p q
      ≡ part (λ s. (under q.name s.0, under p.name s.1)) (stopped_at (λ (w : Named (List P)). w.name) w) (answer (sequences T) p.changes q.changes)
  commuted_changes w p q = go (far_all_over T p.changes q.changes) (all_over T p.changes q.changes)
    where
      go : (b : Bool) (o : Option (List P × List P))
          → part (λ r. r) (stopped_at (λ (w : Named (List P)). w.name) w) (cond b (Err TooFar) (done_or_refused (both (under q.name) (under p.name) (o >>= both_read Some))))
          ≡ part (λ s. (under q.name s.0, under p.name s.1)) (stopped_at (λ (w : Named (List P)). w.name) w) (cond b (Err TooFar) (done_or_refused o))
      go true o = refl
      go false None = refl
      go false (Some r) = refl

  -- two patches, flat
  abbrev flat_pair : Named (List P) × Named (List P) → List (Named P) × List (Named P)
  flat_pair r = (flat_of r.0, flat_of r.1)

  passing_patch : (p q : Named (List P)) → passing_by T (flat_of p) (flat_of q) ≡ part flat_pair (λ x. x) (commuted_at (patches T) (λ w. w.name) q p q)
  passing_patch p q =
      passing_one p.name q.name p.changes q.changes ∙ go (answer (sequences T) p.changes q.changes) ∙ sym (ap (part flat_pair (λ x. x)) (commuted_changes q p q))
    where
      go : (a : Result (List P × List P) Clash) → part (some_some q.name p.name) (stop_by q.name) a
          ≡ part flat_pair (λ x. x) (part (λ s. (under q.name s.0, under p.name s.1)) (stopped_at (λ (w : Named (List P)). w.name) q) a)
      go (Ok s) = refl
      go (Err Refused) = refl
      go (Err TooFar) = refl

  abbrev both_flat : List (Named (List P)) × Named (List P) → Rows
  both_flat s = (flat s.0, flat_of s.1)

  -- a patch passed over a history
  pub passing_flat : (p : Named (List P)) (h : List (Named (List P))) → passing_by T (flat_of p) (flat h) ≡ flat_both (passed (patches T) (λ w. w.name) p h)
  passing_flat p [] = refl
  passing_flat p (q ∷ h) =
      passing_append (flat_of p) (flat_of q) (flat h)
      ∙ ap (then_over (flat h)) (passing_patch p q)
      ∙ seen_then flat_pair both_flat (commuted_at (patches T) (λ w. w.name) q p q) (λ (q', p'). and_then (passed (patches T) (λ w. w.name) p' h) (λ (qs', p''). Ok (q' ∷ qs', p''))) _ (step (λ p'. passing_flat p' h))
    where
      step : ((p' : Named (List P)) → passing_by T (flat_of p') (flat h) ≡ flat_both (passed (patches T) (λ w. w.name) p' h))
          → (s : Named (List P) × Named (List P)) → all_ahead (flat_of s.0) (passing_by T (flat_of s.1) (flat h))
          ≡ flat_both (and_then (passed (patches T) (λ w. w.name) s.1 h) (λ (qs', p''). Ok (s.0 ∷ qs', p'')))
      step below s = ap (all_ahead (flat_of s.0)) (below s.1)
          ∙ seen_then both_flat both_flat (passed (patches T) (λ w. w.name) s.1 h) (λ (qs', p''). Ok (s.0 ∷ qs', p'')) _ (λ t. refl)

  -- what stops them, where the place among the others is told
  abbrev told_at : Option (Named P) → Clash → Stop
  told_at None c = Far
  told_at (Some w) c = stopped_at by_name w c

  abbrev pub stops_at : List (Named P) → AtStep Clash → Stop
  stops_at qs x = told_at (slice_get qs x.step) x.fault

  -- this is the pass of rows, with the place told by its name
  pub passing_places : (ps qs : List (Named P)) → passing_by T ps qs ≡ part (λ s. s) (stops_at qs) (passing N ps qs)
  passing_places ps [] = refl
  passing_places ps (q ∷ qs) = on (λ xs. passing_places xs qs) (answer_over N ps q)
    where
      further : (k : ℕ) → slice_get (q ∷ qs) (k + 1) ≡ slice_get qs k
      further k = let e : k + 1 ≡ suc k = omega arith in ap (slice_get (q ∷ qs)) e

      inner : (q' : Named P) (b : Result Rows (AtStep Clash)) → ahead q' (part (λ s. s) (stops_at qs) b) ≡ part (λ s. s) (stops_at (q ∷ qs)) (part (in_front q') one_further b)
      inner q' (Ok t) = refl
      inner q' (Err x) = ap (λ w. Err (told_at w x.fault)) (sym (further x.step))

      on : ((xs : List (Named P)) → passing_by T xs qs ≡ part (λ s. s) (stops_at qs) (passing N xs qs)) → (a : Result (Named P × List (Named P)) Clash)
          → and_then (part (λ s. s) (stopped_at by_name q) a) (λ (q', ps'). ahead q' (passing_by T ps' qs))
          ≡ part (λ s. s) (stops_at (q ∷ qs)) (and_then (part (λ s. s) (found_at 0) a) (λ (q', ps'). part (in_front q') one_further (passing N ps' qs)))
      on below (Err c) = refl
      on below (Ok s) = ap (ahead s.0) (below s.1) ∙ inner s.0 (passing N s.1 qs)

  -- A patch passed over a history: done exactly together, stopped by the patch whose change is at the told place, and too far together.
  -- Nothing cites it yet.
  pub passing_history : (p : Named (List P)) (h : List (Named (List P)))
      → part (λ s. s) (stops_at (flat h)) (passing N (flat_of p) (flat h)) ≡ flat_both (passed (patches T) (λ w. w.name) p h)
  passing_history p h = sym (passing_places (flat_of p) (flat h)) ∙ passing_flat p h

  -- none is lost on the way
  pub passing_lengths : (ps qs : List (Named P)) (s : Rows) → passing_by T ps qs ≡ Ok s → (length s.0 ≡ length qs) × (length s.1 ≡ length ps)
  passing_lengths ps qs s e = lengths N ps qs s (on (passing N ps qs) (sym (passing_places ps qs) ∙ e))
    where
      on : (b : Result Rows (AtStep Clash)) → part (λ s. s) (stops_at qs) b ≡ Ok s → b ≡ Ok s
      on (Ok t) i = cc
      on (Err x) i = absurd (let z : ◌≡◌ {A = ℕ} 0 1 = cc in omega arith)
