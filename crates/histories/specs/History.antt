-- A history is a list of patches that have names. What is done with one, as the code answers it.
use Rattle.std.specs.Prelude.{ℕ, Bool, false, cond, ◌||◌, List, [], ◌∷◌, ◌++◌, Some, None, Ok, Err, Option, Result, ◌==◌}
use Rattle.kinds.specs.declared.answers.Clash.{Clash}
use Rattle.kinds.specs.declared.answers.Clash.TheVariants.{Refused, TooFar}
use Rattle.kinds.specs.declared.steps.AtStep.{AtStep}
use Rattle.kinds.specs.Theory.{Theory}
use Rattle.kinds.specs.Bounded.{answer}
use Rattle.kinds.specs.Laws.{Commutes}
use Rattle.kinds.specs.Parts.{part}
use Rattle.kinds.specs.Sequences.{and_then, answer_over, sequences}
use Rattle.histories.specs.declared.Stop.{Stop}
use Rattle.histories.specs.declared.Stop.TheVariants.{By, TooFar as Far}

-- A patch with all that it depends on.
pub record Block (P : Type 0) : Type 0 where
  -- what it depends on, in order
  pub needs : List P
  -- the patch, as it stands behind them
  pub itself : P

module _ {P : Type 0} (name : P → ℕ) where
  -- Whether a history holds the name n.
  abbrev pub holds : List P → ℕ → Bool
  holds [] n = false
  holds (p ∷ h) n = name p == n || holds h n

  -- The first of the patches ws whose name is not held.
  abbrev pub missing : List P → List P → Option P
  missing [] h = None
  missing (w ∷ ws) h = cond (holds h (name w)) (missing ws h) (Some w)

  -- What stops a patch at w.
  abbrev pub stopped_at : P → Clash → Stop
  stopped_at w Refused = By (name w)
  stopped_at w TooFar = Far

module _ {P F : Type 0} (T : Theory P F) where
  open T use {Doc, fresh}

  -- The document of a history, or the place of the patch that finds a fault on the way to it.
  abbrev pub replay : List P → Result Doc (AtStep F)
  replay h = (sequences T).apply h fresh

  -- Two neighbours of a history commute.
  pub data Exchanged : List P → List P → Type 0 where
    here : {p q q' p' : P} {h : List P} → Commutes T p q q' p' → Exchanged (p ∷ q ∷ h) (q' ∷ p' ∷ h)
    there : {p : P} {h k : List P} → Exchanged h k → Exchanged (p ∷ h) (p ∷ k)

  -- A history becomes another by commuting neighbours, any number of times.
  pub data Rearranged (h : List P) : List P → Type 0 where
    done : Rearranged h h
    more : {k l : List P} → Rearranged h k → Exchanged k l → Rearranged h l

module _ {P F : Type 0} (T : Theory P F) (name : P → ℕ) where
  open T use {invert}

  -- p and then q commute; a refusal is told by the name of w.
  abbrev pub commuted_at : P → P → P → Result (P × P) Stop
  commuted_at w p q = part (λ r. r) (stopped_at name w) (answer T p q)

  -- p commutes right over all of qs, first one first: qs as they then stand, and p.
  abbrev pub passed : P → List P → Result (List P × P) Stop
  passed p [] = Ok ([], p)
  passed p (q ∷ qs) = and_then (commuted_at q p q) (λ (q', p'). and_then (passed p' qs) (λ (qs', p''). Ok (q' ∷ qs', p'')))

  -- p commutes right over the whole of a block, which then stands before p.
  abbrev pub over_block : P → Block P → Result (Block P) Stop
  over_block p b = and_then (passed p b.needs) (λ (ws, p'). and_then (commuted_at b.itself p' b.itself) (λ (n, p''). Ok (record { needs = ws; itself = n })))

  -- If it is refused, it joins the front of the block, which is as before.
  abbrev pub or_joins : P → Block P → Result (Block P) Stop → Result (Block P) Stop
  or_joins p b (Ok c) = Ok c
  or_joins p b (Err (By n)) = Ok (record { needs = p ∷ b.needs; itself = b.itself })
  or_joins p b (Err Far) = Err Far

  -- The block of n, which is n alone at first. The patches ps that stand before n are tried, nearest first.
  abbrev pub block : List P → P → Result (Block P) Stop
  block [] n = Ok (record { needs = []; itself = n })
  block (p ∷ ps) n = and_then (block ps n) (λ b. or_joins p b (over_block p b))

  -- The patches that are named as one of ws, first one first, commute left over those that are not, nearest first: the ones, and then the others.
  -- The others among the patches before h are us.
  abbrev pub gathered : List P → List P → List P → Result (List P × List P) Clash
  gathered ws us [] = Ok ([], us)
  gathered ws us (p ∷ h) =
      cond (holds name ws (name p))
      (and_then (answer_over T us p) (λ (p', us'). and_then (gathered ws us' h) (λ (vs, ks). Ok (p' ∷ vs, ks))))
      (gathered ws (us ++ p ∷ []) h)

  -- n, which stands where the history ws begins, moved to its end: for each of them, first one first, the inverse and then n commute.
  abbrev pub merged : List P → P → Result P Stop
  merged [] n = Ok n
  merged (w ∷ ws) n = and_then (commuted_at w (invert w) n) (λ (n', w'). merged ws n')
