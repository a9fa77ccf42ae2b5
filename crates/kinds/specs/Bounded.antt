-- What the code answers: what a kind means, within the largest numbers.
use Rattle.std.specs.Prelude.{◌≡◌, ℕ, min, Bool, true, false, cond, ◌&&◌, List, length, Some, None, Ok, Err, Option, Result, ◌==◌, nat_lt}
use Rattle.kinds.specs.declared.answers.Clash.{Clash}
use Rattle.kinds.specs.declared.answers.Clash.TheVariants.{Refused, TooFar}
use Rattle.kinds.specs.declared.answers.Failure.{Failure}
use Rattle.kinds.specs.declared.answers.Failure.TheVariants.{Length, Overfull, Fault}
use Rattle.kinds.specs.Theory.{Theory}

-- A growth or a number of words of 4,294,967,295 or more is told as that number.
abbrev pub largest : ℕ
largest = 4294967295

abbrev pub saturated : ℕ → ℕ
saturated n = min n largest

abbrev pub done_or_refused : {A : Type 0} → Option A → Result A Clash
done_or_refused None = Err Refused
done_or_refused (Some a) = Ok a

abbrev pub done_or_fault : {D F : Type 0} → Result D F → Result D (Failure F)
done_or_fault (Ok e) = Ok e
done_or_fault (Err f) = Err (Fault f)

-- the answer of the code, where e is the document that the words then hold
abbrev pub holding : {D F : Type 0} → Result (Unit {0}) (Failure F) → D → Result D (Failure F)
holding (Ok u) e = Ok e
holding (Err f) e = Err f

module _ {P F : Type 0} (T : Theory P F) where
  -- Commuting is done, refused or too far.
  abbrev pub answer : P → P → Result (P × P) Clash
  answer p q = cond (T.far p q) (Err TooFar) (done_or_refused (T.commute p q))

  -- Applying gives a document, a fault or overfull.
  abbrev pub outcome : P → T.Doc → Result T.Doc (Failure F)
  outcome p d = cond (T.full p d) (Err Overfull) (done_or_fault (T.apply p d))

  -- A run of n words can hold a document. None is as long as a number of words that is told as the largest.
  abbrev pub roomy : ℕ → Bool
  roomy n = n == T.width && nat_lt T.width largest

  -- What applying p to the run `was` answers, r, and leaves there.
  pub record Applied (p : P) (was : List ℕ) (r : Result (Unit {0}) (Failure F)) (left : List ℕ) : Type 0 where
    -- a run of the wrong length is refused, and left as found
    pub refused : roomy (length was) ≡ false → (r ≡ Err Length) × (left ≡ was)
    -- a run that holds the document d then holds some document e, which is the new one where the answer is Ok
    pub done : (d : T.Doc) → T.fits d → was ≡ T.encode d → roomy (length was) ≡ true
        → (e : T.Doc) × T.fits e × (left ≡ T.encode e) × (outcome p d ≡ holding r e)
