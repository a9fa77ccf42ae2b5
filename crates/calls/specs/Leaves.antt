-- What a call leaves of a shop.
use Rattle.std.specs.Prelude.{◌≡◌, ℕ, Result}
use Rattle.kinds.specs.Theory.{Theory}
use Rattle.shop.specs.declared.refusal.Refusal.{Refusal}
use Rattle.shop.specs.declared.shop.Shop.{Shop}
use Rattle.shop.specs.Calls.{Memory}
use Rattle.shop.specs.Held.{rooms as rooms_of, state_of}
use Rattle.shop.specs.Reached.{Call, answer, after, Reached}
use Rattle.calls.specs.Untouched.{Untouched}

-- The call c, with the memory m, answers q and leaves the shop `left` of the shop `was`.
pub record Leaves {P F : Type 0} (T : Theory P F) (m : Memory) (was : Shop P) (c : Call P) (q : Result ℕ (Refusal F)) (left : Shop P) : Type 0 where
  -- It holds the state that the definition of the call leaves, in rows that have as much room.
  pub state : state_of left ≡ after T (state_of was) (answer T m (state_of was) c)
  pub rooms : rooms_of left ≡ rooms_of was
  -- A refusal leaves it as it was, entry by entry.
  pub untouched : Untouched q was left
  -- A shop of a run that began empty stays one.
  pub reached : Reached T (state_of was) → Reached T (state_of left)
