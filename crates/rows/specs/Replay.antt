-- A row, replayed on the fresh document.
use Rattle.std.specs.Prelude.{◌≡◌, ℕ, true, false, List, length, Err, Result}
use Rattle.kinds.specs.declared.answers.Failure.{Failure}
use Rattle.kinds.specs.declared.answers.Failure.TheVariants.{Length}
use Rattle.kinds.specs.declared.steps.AtStep.{AtStep}
use Rattle.kinds.specs.Theory.{Theory}
use Rattle.kinds.specs.Bounded.{roomy, outcome, holding}
use Rattle.kinds.specs.Sequences.{sequences}

-- What replaying answers, r, and leaves of the run `was`.
pub record Replayed {P F : Type 0} (T : Theory P F) (row : List P) (was : List ℕ) (r : Result (Unit {0}) (Failure (AtStep F))) (left : List ℕ) : Type 0 where
  -- a run of the wrong length is refused, and left as found
  pub refused : roomy T (length was) ≡ false → (r ≡ Err Length) × (left ≡ was)
  -- any other then holds some document, which is the one that the row makes of the fresh document where the answer is Ok
  pub done : roomy T (length was) ≡ true → (e : T.Doc) × T.fits e × (left ≡ T.encode e) × (outcome (sequences T) row T.fresh ≡ holding r e)
