-- The states that calls come to.
use Rattle.std.specs.Prelude.{ℕ, List, Ok, Err, Result}
use Rattle.kinds.specs.Theory.{Theory}
use Rattle.kinds.specs.Parts.{part}
use Rattle.shop.specs.declared.refusal.Refusal.{Refusal}
use Rattle.shop.specs.State.{State, empty}
use Rattle.shop.specs.Calls.{Memory, show, record_patch, unrecord, undo, pull}

-- A call with its arguments.
pub data Call (P : Type 0) : Type 0 where
  -- of these changes as one patch, in a repository
  Record : ℕ → List P → Call P
  -- into a taker, from a giver, of the patch of a name
  Pull : ℕ → ℕ → ℕ → Call P
  -- in a repository, of the patch of a name
  Unrecord : ℕ → ℕ → Call P
  Undo : ℕ → ℕ → Call P
  -- of a repository
  Show : ℕ → Call P

module _ {P F : Type 0} (T : Theory P F) where
  -- What a call answers in a state: the state that it leaves and a number, or a refusal.
  abbrev pub answer : Memory → State P → Call P → Result (State P × ℕ) (Refusal F)
  answer m s (Record r cs) = part (λ x. (x.1, x.2)) (λ x. x) (record_patch T m s r cs)
  answer m s (Pull t g n) = pull T m s t g n
  answer m s (Unrecord r n) = unrecord T m s r n
  answer m s (Undo r n) = undo T m s r n
  answer m s (Show r) = part (λ x. (s, x.1)) (λ x. x) (show T m s r)

  -- A refusal leaves the state as it was.
  abbrev pub after : State P → Result (State P × ℕ) (Refusal F) → State P
  after s (Ok x) = x.0
  after s (Err x) = s

  -- t comes from s by calls with any arguments and memory, accepted or refused.
  pub data Later (s : State P) : State P → Type 0 where
    same : Later s s
    called : {t : State P} → Later s t → (m : Memory) (c : Call P) → Later s (after t (answer m t c))

  -- A state of a shop that was opened empty.
  abbrev pub Reached : State P → Type 0
  Reached s = Later empty s
