-- What holds of all histories of a run.
use Rattle.std.specs.Prelude.{◌≡◌, ℕ, ◌≤◌, true, false, not, ◌&&◌, ◌≢◌, List, [], ◌∷◌, ◌++◌, None, Ok, Err, ◌==◌}
use Rattle.kinds.specs.Theory.{Theory}
use Rattle.kinds.specs.Laws.{most}
use Rattle.kinds.specs.Sequences.{growths, all_written, full_along}
use Rattle.histories.specs.declared.Stop.TheVariants.{TooFar}
use Rattle.histories.specs.declared.named.Named.{Named}
use Rattle.histories.specs.Named.{patches}
use Rattle.histories.specs.History.{Block, holds, missing, replay, Rearranged, passed, block, gathered, merged}
use Rattle.histories.specs.Runs.{Seen, Pull, Run}

-- The same names are held.
abbrev pub SameNames : {P : Type 0} → (P → ℕ) → List P → List P → Type 0
SameNames name h k = (n : ℕ) → holds name h n ≡ holds name k n

-- Both can be replayed, to the same document.
abbrev pub SameDocument : {P F : Type 0} → Theory P F → List P → List P → Type 0
SameDocument T h k = (d : T.Doc) × (replay T h ≡ Ok d) × (replay T k ≡ Ok d)

module _ {P F : Type 0} (T : Theory P F) (name : P → ℕ) where
  open T use {Doc, fresh, apply, invert, written}

  -- What is true of one history.
  pub record WellFormed (h : List P) : Type 0 where
    -- it can be replayed
    pub document : Doc
    pub shown : replay T h ≡ Ok document
    -- all documents on the way find room in the words
    pub room : full_along T h fresh ≡ false
    -- its growths are 120 at most
    pub grown : growths T h ≤ most
    -- its patches can be written
    pub writable : all_written T h ≡ true
    -- no name stands there twice
    pub once : (ps : List P) (p : P) (qs : List P) → h ≡ ps ++ p ∷ qs → holds name (ps ++ qs) (name p) ≡ false

  -- What is true of all histories of a run.
  pub record Agreement (hs : List (List P)) : Type 0 where
    -- Each is well-formed.
    pub well_formed : (h : List P) → Seen h hs → WellFormed h
    -- Two with the same names are rearrangements of each other, and replay to the same document.
    pub agree : (h k : List P) → Seen h hs → Seen k hs → SameNames name h k → Rearranged T h k × SameDocument T h k
    -- A patch that is passed to the end comes to no commute that is too far ...
    pub passes : (ps : List P) (p : P) (qs : List P) → Seen (ps ++ p ∷ qs) hs → passed T name p qs ≢ Err TooFar
    -- ... and if it arrives, then to remove it takes its name away, and no other.
    pub removes : (ps : List P) (p : P) (qs rest : List P) (last : P) → Seen (ps ++ p ∷ qs) hs → passed T name p qs ≡ Ok (rest, last)
        → (n : ℕ) → holds name (ps ++ rest) n ≡ (holds name (ps ++ p ∷ qs) n && not (name p == n))
    -- To undo it instead is to append its inverse, as it arrived, under a new name. The inverse can be written ...
    pub inverts : (ps : List P) (p : P) (qs rest : List P) (last : P) → Seen (ps ++ p ∷ qs) hs → passed T name p qs ≡ Ok (rest, last) → written (invert last) ≡ true
    -- ... and a patch that does what it does applies, and gives the document that is there where p is removed.
    pub undoes : (ps : List P) (p : P) (qs rest : List P) (last : P) → Seen (ps ++ p ∷ qs) hs → passed T name p qs ≡ Ok (rest, last)
        → (u : P) → apply u ≡ apply (invert last) → SameDocument T ((ps ++ p ∷ qs) ++ u ∷ []) (ps ++ rest)
    -- The search for what a patch depends on comes to no commute that is too far.
    pub depends : (ps : List P) (n : P) (qs : List P) → Seen (ps ++ n ∷ qs) hs → (b : Block P) × (block T name ps n ≡ Ok b)
    -- In a history that holds all needs of a patch, these commute left over the others: none is refused, and no commute is too far.
    pub gathers : (h ps : List P) (n : P) (qs : List P) (b : Block P) → Seen h hs → Seen (ps ++ n ∷ qs) hs → block T name ps n ≡ Ok b
        → missing name b.needs h ≡ None → (vs : List P) × (ks : List P) × (gathered T name b.needs [] h ≡ Ok (vs, ks))
    -- To merge a patch that is pulled comes to no commute that is too far ...
    pub merges : (h ps : List P) (n : P) (qs : List P) (b : Block P) (vs ks : List P) → Seen h hs → Seen (ps ++ n ∷ qs) hs → Pull T name h ps n b vs ks
        → merged T name ks b.itself ≢ Err TooFar
    -- ... and the patch keeps its name.
    pub keeps_name : (h ps : List P) (n : P) (qs : List P) (b : Block P) (vs ks : List P) (z : P) → Seen h hs → Seen (ps ++ n ∷ qs) hs → Pull T name h ps n b vs ks
        → merged T name ks b.itself ≡ Ok z → name z ≡ name n
    -- The last patch, as one that was just pulled, is passed over none: to remove it leaves the history as it was before.
    pub takes_back : (h : List P) (z : P) → Seen (h ++ z ∷ []) hs → (ps : List P) (p : P) (qs : List P) → h ++ z ∷ [] ≡ ps ++ p ∷ qs → name p ≡ name z
        → (passed T name p qs ≡ Ok ([], z)) × (ps ++ [] ≡ h)

-- Histories agree in every run over patches whose changes are those of T.
abbrev pub HistoriesAgree : {P F : Type 0} → Theory P F → Type 0
HistoriesAgree {P} T = (hs : List (List (Named (List P)))) → Run (patches T) (λ p. p.name) hs → Agreement (patches T) (λ p. p.name) hs
