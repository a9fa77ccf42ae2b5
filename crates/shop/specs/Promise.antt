-- What is promised of every shop that was opened empty.
use Rattle.std.specs.Prelude.{◌≡◌, ℕ, ◌<◌, ◌≢◌, List, length, Ok, Err, Result}
use Rattle.kinds.specs.Theory.{Theory}
use Rattle.kinds.specs.Parts.{part}
use Rattle.histories.specs.Agreement.{SameNames}
use Rattle.shop.specs.declared.refusal.Refusal.{Refusal}
use Rattle.shop.specs.Refusals.{number}
use Rattle.shop.specs.State.{State, at}
use Rattle.shop.specs.Calls.{Memory, enough, show, unrecord, undo, pull}
use Rattle.shop.specs.Reached.{Call, answer, Later, Reached}

module _ {P F : Type 0} (T : Theory P F) where
  -- The words that repository r shows.
  abbrev pub words_of : Memory → State P → ℕ → Result (List ℕ) (Refusal F)
  words_of m s r = part (λ x. T.encode x.0) (λ x. x) (show T m s r)

  -- Both repositories show, and the same document, word for word.
  abbrev pub ShowTheSame : Memory → State P → ℕ → State P → ℕ → Type 0
  ShowTheSame m s q t r = (ws : List ℕ) × (words_of m s q ≡ Ok ws) × (words_of m t r ≡ Ok ws)

  pub record Promise : Type 0 where
    -- Two repositories that hold the same names show the same document; so do two at different moments of a run.
    pub same_names_same_document : (s t : State P) → Reached T s → Later T s t → (q r : ℕ) → q < 4 → r < 4 → SameNames (λ p. p.name) (at s q) (at t r)
        → (m : Memory) → enough T m ≡ Ok tt → ShowTheSame m s q t r
    -- No call is refused as torn.
    pub never_torn : (s : State P) → Reached T s → (m : Memory) (c : Call P) (x : Refusal F) → answer T m s c ≡ Err x → number x ≢ 20
    -- Where undo is accepted, so is unrecord of the same patch in its place, and both then show the same document.
    pub undo_or_unrecord : (s t : State P) → Reached T s → (m : Memory) (r n a : ℕ) → undo T m s r n ≡ Ok (t, a)
        → (u : State P) × (b : ℕ) × (unrecord T m s r n ≡ Ok (u, b)) × ShowTheSame m t r u r
    -- Unrecord straight after a pull leaves everything as it was before the pull.
    pub pull_and_back : (s u : State P) → Reached T s → (m : Memory) (t g n a : ℕ) → pull T m s t g n ≡ Ok (u, a) → unrecord T m u t n ≡ Ok (s, length (at s t))
