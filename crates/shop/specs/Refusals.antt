-- The number and the value that the rules give to each refusal.
use Rattle.std.specs.Prelude.{ℕ, Some, None, Option}
use Rattle.kinds.specs.declared.answers.Failure.{Failure}
use Rattle.kinds.specs.declared.answers.Failure.TheVariants.{Length, Overfull, Fault as Faulty}
use Rattle.kinds.specs.declared.steps.AtStep.{AtStep}
use Rattle.shop.specs.declared.refusal.Refusal.{Refusal}
use Rattle.shop.specs.declared.refusal.Refusal.TheVariants.{NoRepository, SameRepository, WrongRoom, WrongCount, Unwritable, NotHeld, AlreadyHeld, Fault, Lacking, Clashes, NeededBy, NoName, Full, Overgrown, Torn}

module _ {F : Type 0} where
  abbrev pub number : Refusal F → ℕ
  -- from what was handed in
  number (NoRepository r) = 1
  number SameRepository = 2
  number WrongRoom = 3
  number WrongCount = 4
  number (Unwritable i) = 5
  -- from what the repositories hold
  number NotHeld = 11
  number AlreadyHeld = 12
  number (Fault f) = 13
  number (Lacking n) = 14
  number (Clashes n) = 15
  number (NeededBy n) = 16
  number NoName = 17
  number Full = 18
  number Overgrown = 19
  number (Torn r) = 20

  -- The repository, the place of a change or the name that is told with it.
  abbrev pub value : Refusal F → Option ℕ
  value (NoRepository r) = Some r
  value SameRepository = None
  value WrongRoom = None
  value WrongCount = None
  value (Unwritable i) = Some i
  value NotHeld = None
  value AlreadyHeld = None
  value (Fault f) = Some f.step
  value (Lacking n) = Some n
  value (Clashes n) = Some n
  value (NeededBy n) = Some n
  value NoName = None
  value Full = None
  value Overgrown = None
  value (Torn r) = Some r

-- What a change that fails to apply is told as. Where there is room for the document, it is always a fault.
abbrev pub failure_told : {F : Type 0} → Failure (AtStep F) → Refusal F
failure_told Length = WrongRoom
failure_told Overfull = Overgrown
failure_told (Faulty f) = Fault f
