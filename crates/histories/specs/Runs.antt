-- Runs: patches are recorded, removed and pulled, in any number of repositories. Each holds a history, and a step makes one history more.
use Rattle.std.specs.Prelude.{◌≡◌, ℕ, ◌+◌, ◌≤◌, true, false, List, [], ◌∷◌, ◌++◌, None, Ok}
use Rattle.kinds.specs.Theory.{Theory}
use Rattle.kinds.specs.Laws.{most}
use Rattle.kinds.specs.Sequences.{growths}
use Rattle.histories.specs.History.{Block, holds, missing, replay, passed, block, gathered, merged}

-- h is one of the histories hs.
pub data Seen {P : Type 0} (h : List P) : List (List P) → Type 0 where
  newest : {hs : List (List P)} → Seen h (h ∷ hs)
  older : {k : List P} {hs : List (List P)} → Seen h hs → Seen h (k ∷ hs)

module _ {P F : Type 0} (T : Theory P F) (name : P → ℕ) where
  open T use {Doc, growth, written}

  -- The patch n, which stands behind the patches ps in the giver's history, can be pulled into the history h. Its block is b.
  -- The taker lacks n, and holds all needs: these are vs where they are brought to the front, and the others then are ks. There is growth enough left.
  pub record Pull (h ps : List P) (n : P) (b : Block P) (vs ks : List P) : Type 0 where
    pub lacked : holds name h (name n) ≡ false
    pub found : block T name ps n ≡ Ok b
    pub held : missing name b.needs h ≡ None
    pub front : gathered T name b.needs [] h ≡ Ok (vs, ks)
    pub room : growths T h + growth n ≤ most

  -- All histories that were seen in a run, the newest first. None is left out later, so that old ones can be spoken of beside new ones.
  pub data Run : List (List P) → Type 0 where
    -- At first there is the empty history.
    opened : Run ([] ∷ [])
    -- A patch is recorded at the end of a history, under a name that was never seen. It can be written, applies to the document there, and finds growth enough left.
    recorded : {hs : List (List P)} {h : List P} (p : P) (d : Doc) → Run hs → Seen h hs → ((k : List P) → Seen k hs → holds name k (name p) ≡ false)
        → written p ≡ true → replay T (h ++ p ∷ []) ≡ Ok d → growths T h + growth p ≤ most → Run ((h ++ p ∷ []) ∷ hs)
    -- A patch is passed to the end and dropped.
    removed : {hs : List (List P)} (ps : List P) (p : P) (qs rest : List P) (last : P) → Run hs → Seen (ps ++ p ∷ qs) hs → passed T name p qs ≡ Ok (rest, last)
        → Run ((ps ++ rest) ∷ hs)
    -- A patch of a giver's history, as it stands in its block, is merged into a taker's.
    pulled : {hs : List (List P)} {h : List P} (ps : List P) (n : P) (qs : List P) (b : Block P) (vs ks : List P) (z : P) → Run hs → Seen h hs → Seen (ps ++ n ∷ qs) hs
        → Pull h ps n b vs ks → merged T name ks b.itself ≡ Ok z → Run ((h ++ z ∷ []) ∷ hs)
