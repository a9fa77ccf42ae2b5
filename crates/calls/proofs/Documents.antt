-- The document of a history, from its flat row.
use Rattle.std.proofs.Common.{◌≡◌, ℕ, ◌+◌, ◌≤◌, true, false, cond, List, [], ◌∷◌, ◌++◌, map, length, Ok, Err, Result, sym, refl, ap, ◌∙◌, subst, arith}
use Rattle.kinds.specs.declared.answers.Failure.{Failure}
use Rattle.kinds.specs.declared.answers.Failure.TheVariants.{Overfull, Fault as Faulty}
use Rattle.kinds.specs.declared.steps.AtStep.{AtStep}
use Rattle.kinds.specs.Theory.{Theory}
use Rattle.kinds.specs.Bounded.{roomy, holding, done_or_fault, Applied}
use Rattle.kinds.specs.Laws.{most, Lawful}
use Rattle.kinds.specs.Parts.{part}
use Rattle.kinds.specs.Sequences.{apply_from, growths, full_along, sequences}
use Rattle.kinds.proofs.Sequences.{Run, end, step, run_of, of_run, run_join, sequences_lawful}
use Rattle.rows.specs.Replay.{Replayed}
use Rattle.histories.specs.declared.named.Named.{Named}
use Rattle.histories.specs.Named.{under, named, patches}
use Rattle.histories.specs.History.{replay}
use Rattle.histories.specs.Proofs.NamedLaws.{named_lawful}
use Rattle.histories.specs.Flat.{flat_of, flat}
use Rattle.forms.specs.Form.{grouped, sound}
use Rattle.forms.proofs.Grouping.{flat_grouped}
use Rattle.forms.proofs.Growing.{growths_grouped}
use Rattle.forms.proofs.SoundParts.{sound_parts}
use Rattle.shop.specs.declared.refusal.Refusal.{Refusal}
use Rattle.shop.specs.declared.refusal.Refusal.TheVariants.{Fault, Torn}
use Rattle.shop.specs.Refusals.{failure_told}
use Rattle.shop.specs.Calls.{document}
use Rattle.calls.specs.Run.{LeftInRun}

-- a document that is reached is the one without bounds too
the_ideal : {D F : Type 0} (r : Result D F) (e : D) → done_or_fault r ≡ Ok e → r ≡ Ok e
the_ideal (Ok d) e h = cc
the_ideal (Err f) e h = cc

module _ {P F : Type 0} (T : Theory P F) where
  abbrev N : Theory (Named P) F
  N = named T

  -- changes under a name apply as they do without it
  named_run : (n : ℕ) {cs : List P} {d e : T.Doc} → Run T cs d e → Run N (map (under n) cs) d e
  named_run n end = end
  named_run n (step a r) = step a (named_run n r)

  unnamed_run : (n : ℕ) (cs : List P) {d e : T.Doc} → Run N (map (under n) cs) d e → Run T cs d e
  unnamed_run n [] end = end
  unnamed_run n (c ∷ cs) (step a r) = step a (unnamed_run n cs r)

  -- a run over two parts
  cut_run : (xs ys : List (Named P)) {d e : T.Doc} → Run N (xs ++ ys) d e → (m : T.Doc) × Run N xs d m × Run N ys m e
  cut_run [] ys {d} r = (d, end, r)
  cut_run (x ∷ xs) ys (step a r) = let (m, u, v) = cut_run xs ys r in (m, step a u, v)

  -- a history applies as its flat row does
  flat_run : {h : List (Named (List P))} {d e : T.Doc} → Run (patches T) h d e → Run N (flat h) d e
  flat_run end = end
  flat_run (step {p = p} {d = d} {m = m} a r) = run_join N (named_run p.name (run_of T 0 p.changes d m a)) (flat_run r)

  history_run : (h : List (Named (List P))) {d e : T.Doc} → Run N (flat h) d e → Run (patches T) h d e
  history_run [] end = end
  history_run (p ∷ h) {d} {e} r = let (m, u, v) = cut_run (flat_of p) (flat h) r in step (of_run T 0 (unnamed_run p.name p.changes u)) (history_run h v)

  module _ (L : Lawful T) where
    -- no document on the way finds too little room
    never_full : (row : List (Named P)) → growths N row ≤ most → full_along N row T.fresh ≡ false
    never_full row g = (sequences_lawful N (named_lawful T L)).held_in_words.room row T.fresh (let z = L.held_in_words.starts.1 in omega arith)

    -- what replaying a row of the right form leaves
    pub replayed_document : (row : List (Named P)) (was left : List ℕ) (r : Result (Unit {0}) (Failure (AtStep F))) (told : Result (Unit {0}) (Refusal F)) (counter number : ℕ)
        → sound T counter (grouped row) ≡ true → roomy T (length was) ≡ true → Replayed N row was r left → told ≡ part (λ u. u) (λ x. Torn number) r
        → LeftInRun T (document T number (grouped row)) told left
    replayed_document row was left r told counter number s w h f =
        let (e, fit, is, out) = h.done w in on r f e fit is (sym (ap (λ b. cond b (Err Overfull) (done_or_fault (apply_from N 0 row T.fresh))) (never_full row grown)) ∙ out)
      where
        grown : growths N row ≤ most
        grown = subst (λ n. n ≤ most) (sym (growths_grouped T row)) (sound_parts T counter (grouped row) s).grown

        -- the row is that of its history
        same : (d : T.Doc) → apply_from N 0 row T.fresh ≡ Ok d → replay (patches T) (grouped row) ≡ Ok d
        same d k = of_run (patches T) 0 (history_run (grouped row) (subst (λ z. Run N z T.fresh d) (sym (flat_grouped row)) (run_of N 0 row T.fresh d k)))

        other : (d : T.Doc) → replay (patches T) (grouped row) ≡ Ok d → apply_from N 0 row T.fresh ≡ Ok d
        other d k = of_run N 0 (subst (λ z. Run N z T.fresh d) (flat_grouped row) (flat_run (run_of (patches T) 0 (grouped row) T.fresh d k)))

        on : (r : Result (Unit {0}) (Failure (AtStep F))) → told ≡ part (λ u. u) (λ x. Torn number) r → (e : T.Doc) → T.fits e → left ≡ T.encode e
            → done_or_fault (apply_from N 0 row T.fresh) ≡ holding r e → LeftInRun T (document T number (grouped row)) told left
        on (Ok u) f e fit is out = rw (same e (the_ideal (apply_from N 0 row T.fresh) e out)) (f, fit, is)
        on (Err x) f e fit is out = at (replay (patches T) (grouped row)) refl
          where
            at : (a : Result T.Doc (AtStep (AtStep F))) → replay (patches T) (grouped row) ≡ a → LeftInRun T (part (λ d. d) (λ y. Torn number) a) told left
            at (Ok d) k = cc (ap done_or_fault (other d k), out)
            at (Err y) k = f

    -- what applying the changes of a patch leaves
    pub applied_changes : (cs : List P) (was left : List ℕ) (r : Result (Unit {0}) (Failure (AtStep F))) → Applied (sequences T) cs was r left
        → (d : T.Doc) → T.fits d → was ≡ T.encode d → roomy T (length was) ≡ true → T.size d + growths T cs ≤ most
        → LeftInRun T (part (λ e. e) Fault ((sequences T).apply cs d)) (part (λ u. u) failure_told r) left
    applied_changes cs was left r h d fit is w g =
        let (e, fits, now, out) = h.done d fit is w in
        on (apply_from T 0 cs d) r e fits now (sym (ap (λ b. cond b (Err Overfull) (done_or_fault (apply_from T 0 cs d))) ((sequences_lawful T L).held_in_words.room cs d g)) ∙ out)
      where
        on : (a : Result T.Doc (AtStep F)) (q : Result (Unit {0}) (Failure (AtStep F))) (e : T.Doc) → T.fits e → left ≡ T.encode e → done_or_fault a ≡ holding q e
            → LeftInRun T (part (λ e. e) Fault a) (part (λ u. u) failure_told q) left
        on (Ok e') (Ok u) e fits now out = let z : e ≡ e' = cc in (refl, subst (λ x. T.fits x) z fits, now ∙ ap T.encode z)
        on (Ok e') (Err x) e fits now out = cc
        on (Err y) (Ok u) e fits now out = cc
        on (Err y) (Err x) e fits now out = let z : Faulty y ≡ x = cc in ap (λ v. Err (failure_told v)) (sym z)
