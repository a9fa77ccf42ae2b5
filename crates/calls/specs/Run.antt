-- What a call leaves in the document run.
use Rattle.std.specs.Prelude.{◌≡◌, ℕ, ◌+◌, cond, List, length, replicate, Ok, Err, Result, nat_le}
use Rattle.kinds.specs.Theory.{Theory}
use Rattle.kinds.specs.Parts.{part}
use Rattle.kinds.specs.Sequences.{sequences}
use Rattle.histories.specs.Named.{under}
use Rattle.shop.specs.declared.refusal.Refusal.{Refusal}
use Rattle.shop.specs.declared.refusal.Refusal.TheVariants.{Fault}
use Rattle.shop.specs.Refusals.{number}
use Rattle.shop.specs.State.{State}
use Rattle.shop.specs.Calls.{◌>>=◌, ◌>>◌, sound_at, a_name_left, room_for, document}

module _ {P F : Type 0} (T : Theory P F) where
  -- The new document; zeros after a refusal from what the repositories hold; what it held after a refusal from what was handed in.
  abbrev pub run_after : List ℕ → Result T.Doc (Refusal F) → List ℕ
  run_after was (Ok d) = T.encode d
  run_after was (Err x) = cond (nat_le (number x) 5) was (replicate (length was) 0)

  -- A part of a call answers r and leaves a document in the run, or is refused.
  abbrev pub LeftInRun : Result T.Doc (Refusal F) → Result (Unit {0}) (Refusal F) → List ℕ → Type 0
  LeftInRun (Ok d) r left = (r ≡ Ok tt) × T.fits d × (left ≡ T.encode d)
  LeftInRun (Err x) r left = r ≡ Err x

  -- The document that record makes of the one in repository r, behind all tests of the state.
  abbrev pub new_document : State P → ℕ → List P → Result T.Doc (Refusal F)
  new_document s r cs = do
    h ← sound_at T s r
    a_name_left T s
    room_for T h (under (s.counter + 1) cs)
    d ← document T r h
    part (λ e. e) Fault ((sequences T).apply cs d)
