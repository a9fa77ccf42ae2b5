-- What each call answers, and the state that it leaves. The refusals stand in the order in which they are looked for.
use Rattle.std.specs.Prelude.{ℕ, ◌+◌, Bool, true, false, not, ◌&&◌, List, [], ◌∷◌, ◌++◌, length, Some, None, Ok, Err, Option, Result, ◌==◌, nat_le, nat_lt}
use Rattle.std.specs.List.{list_all}
use Rattle.kinds.specs.Theory.{Theory}
use Rattle.kinds.specs.Bounded.{roomy}
use Rattle.kinds.specs.Laws.{most}
use Rattle.kinds.specs.Parts.{part}
use Rattle.kinds.specs.Sequences.{and_then, growths, inverses, sequences}
use Rattle.histories.specs.declared.Stop.{Stop}
use Rattle.histories.specs.declared.Stop.TheVariants.{By, TooFar}
use Rattle.histories.specs.declared.named.Named.{Named}
use Rattle.histories.specs.Named.{under, one_to_eight, patches}
use Rattle.histories.specs.History.{holds, missing, replay, passed, block, gathered, merged}
use Rattle.histories.specs.Flat.{flat}
use Rattle.forms.specs.Form.{most_patches, most_changes, sound}
use Rattle.forms.specs.Find.{Standing, standing, unwritable}
use Rattle.shop.specs.declared.refusal.Refusal.{Refusal}
use Rattle.shop.specs.declared.refusal.Refusal.TheVariants.{NoRepository, SameRepository, WrongRoom, WrongCount, Unwritable, NotHeld, AlreadyHeld, Fault, Lacking, Clashes, NeededBy, NoName, Full, Overgrown, Torn}
use Rattle.shop.specs.State.{History, State, at, with_history, with_name}

infixl 10 ◌>>=◌
-- what follows, unless the call is refused
abbrev pub ◌>>=◌ : {A B E : Type 0} → Result A E → (A → Result B E) → Result B E
◌>>=◌ = and_then

infixl 10 ◌>>◌
abbrev pub ◌>>◌ : {A B E : Type 0} → Result A E → Result B E → Result B E
◌>>◌ r s = and_then r (λ a. s)

-- The call goes on if a test holds; if not, it is refused so.
abbrev pub or_refused : {F : Type 0} → Bool → Refusal F → Result (Unit {0}) (Refusal F)
or_refused true x = Ok tt
or_refused false x = Err x

-- Memory that is handed to a call: the number of entries of each history and work row, and the number of words of the document run if there is one.
pub record Memory : Type 0 where
  pub rows : List ℕ
  pub run : Option ℕ

-- Every row has room for 160 changes.
abbrev pub all_long : List ℕ → Bool
all_long = list_all (nat_le most_changes)

module _ {P F : Type 0} (T : Theory P F) where
  abbrev by_name : Named (List P) → ℕ
  by_name p = p.name

  abbrev Answer : Type 0 → Type 0
  Answer A = Result A (Refusal F)

  -- There are four repositories.
  abbrev pub in_shop : ℕ → Answer (Unit {0})
  in_shop r = or_refused (nat_lt r 4) (NoRepository r)

  -- The run has the kind's number of words.
  abbrev pub run_fits : Option ℕ → Bool
  run_fits None = true
  run_fits (Some n) = roomy T n

  abbrev pub enough : Memory → Answer (Unit {0})
  enough m = or_refused (all_long m.rows && run_fits m.run) WrongRoom

  -- The call is refused so if there is something to tell.
  abbrev pub refused_if_some : {A : Type 0} → (A → Refusal F) → Option A → Answer (Unit {0})
  refused_if_some f None = Ok tt
  refused_if_some f (Some a) = Err (f a)

  -- One to eight changes, all of which can be written.
  abbrev pub a_patch : List P → Answer (Unit {0})
  a_patch cs = do
    or_refused (one_to_eight cs) WrongCount
    refused_if_some Unwritable (unwritable T 0 cs)

  -- The history of repository r, if it has the right form.
  abbrev pub sound_at : State P → ℕ → Answer (History P)
  sound_at s r = do
    or_refused (sound T s.counter (at s r)) (Torn r)
    Ok (at s r)

  abbrev pub or_not_held : Option (Standing (Named (List P))) → Answer (Standing (Named (List P)))
  or_not_held None = Err NotHeld
  or_not_held (Some w) = Ok w

  -- The history and one patch more stay within 40 patches and 160 changes, and within growth 120.
  abbrev pub room_for : History P → Named (List P) → Answer (Unit {0})
  room_for h p = do
    or_refused (nat_le (length h + 1) most_patches && nat_le (length (flat h) + length p.changes) most_changes) Full
    or_refused (nat_le (growths (patches T) h + (patches T).growth p) most) Overgrown

  -- There is a name that was never given out.
  abbrev pub a_name_left : State P → Answer (Unit {0})
  a_name_left s = or_refused (nat_lt s.counter 255) NoName

  -- The document of repository r, whose history is h.
  abbrev pub document : ℕ → History P → Answer T.Doc
  document r h = part (λ d. d) (λ f. Torn r) (replay (patches T) h)

  -- A patch of repository r that is passed over later ones: what stops it.
  abbrev pub needed_by : ℕ → Stop → Refusal F
  needed_by r (By n) = NeededBy n
  needed_by r TooFar = Torn r

  -- A patch that is merged into repository r: what stops it.
  abbrev pub clashes_with : ℕ → Stop → Refusal F
  clashes_with r (By n) = Clashes n
  clashes_with r TooFar = Torn r

  -- Show answers the number of patches, and the document.
  abbrev pub show : Memory → State P → ℕ → Answer (T.Doc × ℕ)
  show m s r = do
    in_shop r
    enough m
    h ← sound_at s r
    d ← document r h
    Ok (d, length h)

  -- Record appends the changes as one patch under a new name, which is the answer.
  abbrev pub record_patch : Memory → State P → ℕ → List P → Answer (T.Doc × State P × ℕ)
  record_patch m s r cs = do
    in_shop r
    enough m
    a_patch cs
    h ← sound_at s r
    a_name_left s
    room_for h (under (s.counter + 1) cs)
    d ← document r h
    e ← part (λ e. e) Fault ((sequences T).apply cs d)
    Ok (e, with_name (with_history s r (h ++ under (s.counter + 1) cs ∷ [])), s.counter + 1)

  -- The patch n of repository r, passed over all later ones: those before it and the later ones as they then stand, and the patch.
  abbrev pub taken_out : Memory → State P → ℕ → ℕ → Answer (History P × Named (List P))
  taken_out m s r n = do
    in_shop r
    enough m
    h ← sound_at s r
    w ← or_not_held (standing by_name h n)
    (rest, last) ← part (λ x. x) (needed_by r) (passed (patches T) by_name w.itself w.behind)
    Ok (w.before ++ rest, last)

  -- Unrecord drops it, and answers the number of patches left.
  abbrev pub unrecord : Memory → State P → ℕ → ℕ → Answer (State P × ℕ)
  unrecord m s r n = do
    (h, last) ← taken_out m s r n
    Ok (with_history s r h, length h)

  -- Undo leaves the history as it is and appends the inverse of the patch, as it arrived, under a new name, which is the answer.
  abbrev pub undo : Memory → State P → ℕ → ℕ → Answer (State P × ℕ)
  undo m s r n = do
    (h, last) ← taken_out m s r n
    a_name_left s
    room_for (at s r) (under (s.counter + 1) (inverses T last.changes))
    Ok (with_name (with_history s r (at s r ++ under (s.counter + 1) (inverses T last.changes) ∷ [])), s.counter + 1)

  -- Pull merges the patch n of the giver g into the taker t, and answers the taker's number of patches.
  abbrev pub pull : Memory → State P → ℕ → ℕ → ℕ → Answer (State P × ℕ)
  pull m s t g n = do
    in_shop t
    in_shop g
    or_refused (not (t == g)) SameRepository
    enough m
    h ← sound_at s t
    k ← sound_at s g
    w ← or_not_held (standing by_name k n)
    or_refused (not (holds by_name h n)) AlreadyHeld
    b ← part (λ b. b) (λ x. Torn g) (block (patches T) by_name w.before w.itself)
    refused_if_some (λ v. Lacking v.name) (missing by_name b.needs h)
    room_for h w.itself
    (vs, ks) ← part (λ x. x) (λ x. Torn t) (gathered (patches T) by_name b.needs [] h)
    z ← part (λ z. z) (clashes_with t) (merged (patches T) by_name ks b.itself)
    Ok (with_history s t (h ++ z ∷ []), length h + 1)
