-- Sheets: a document is a list of documents of the kind below, each there or not, and a change makes, removes or moves one, or changes it inside.
use Rattle.std.specs.Prelude.{◌≡◌, ℕ, ◌+◌, ◌*◌, ◌<◌, Bool, true, false, cond, not, ◌&&◌, ◌||◌, List, ◌∷◌, length, drop, replicate, Some, None, Ok, Err, sum_by, Option, Result, ◌==◌, nat_lt, slice_index, slice_set}
use Rattle.std.proofs.Math.Seq.{paste}
use Rattle.std.specs.List.{AllByRecursion, slice_get, flat_map, list_all}
use Rattle.kinds.specs.declared.answers.Failure.{Failure}
use Rattle.kinds.specs.Theory.{Theory}
use Rattle.kinds.specs.Bounded.{Applied, done_or_fault, largest}
use Rattle.kinds.specs.Parts.{both, part}
use Rattle.kinds.specs.Slots.{passing, words_of}
use Rattle.sheets.specs.declared.Sheet.{Sheet}
use Rattle.sheets.specs.declared.SheetChange.TheVariants.{the_data as SheetChange, Create, Remove, Move, Inside}
use Rattle.sheets.specs.declared.SheetFault.TheVariants.{the_data as SheetFault, Absent, There, NotFresh, Inside as InSheet}

-- two numbers are of one sheet
abbrev pub same_sheet : Sheet → Sheet → Bool
same_sheet a b = a.0 == b.0

-- a change is of the sheet x
abbrev pub touches : {P : Type 0} → SheetChange P → Sheet → Bool
touches (Create a) x = same_sheet a x
touches (Remove a) x = same_sheet a x
touches (Move a b) x = same_sheet a x || same_sheet b x
touches (Inside a p) x = same_sheet a x

-- two changes are of one sheet
abbrev pub share : {P : Type 0} → SheetChange P → SheetChange P → Bool
share (Create a) c = touches c a
share (Remove a) c = touches c a
share (Move a b) c = touches c a || touches c b
share (Inside a p) c = touches c a

-- what the document of a sheet is taken to, if it is there; a number with no place is of an absent sheet
abbrev pub if_there : {D E F : Type 0} → Sheet → (D → Result E (SheetFault F)) → Option (Option D) → Result E (SheetFault F)
if_there a f None = Err (Absent a)
if_there a f (Some None) = Err (Absent a)
if_there a f (Some (Some x)) = f x

-- what there is if a sheet has a place and is absent
abbrev pub if_absent : {D E F : Type 0} → Sheet → Result E (SheetFault F) → Option (Option D) → Result E (SheetFault F)
if_absent a r None = Err (Absent a)
if_absent a r (Some None) = r
if_absent a r (Some (Some x)) = Err (There a)

module _ {P F : Type 0} (T : Theory P F) where
  -- what a change makes of the sheets, or what it finds wrong
  abbrev pub sheet_apply : SheetChange P → List (Option T.Doc) → Result (List (Option T.Doc)) (SheetFault F)
  sheet_apply (Create a) d = if_absent a (Ok (slice_set d a.0 (Some T.fresh))) (slice_get d a.0)
  sheet_apply (Remove a) d = if_there a (λ x. cond (T.blank x) (Ok (slice_set d a.0 None)) (Err (NotFresh a))) (slice_get d a.0)
  sheet_apply (Move a b) d = if_there a (λ x. if_absent b (Ok (slice_set (slice_set d a.0 None) b.0 (Some x))) (slice_get d b.0)) (slice_get d a.0)
  sheet_apply (Inside a p) d = if_there a (λ x. part (λ y. slice_set d a.0 (Some y)) (InSheet a) (T.apply p x)) (slice_get d a.0)

  -- creating and removing are inverses, and so are moving there and back
  abbrev pub sheet_invert : SheetChange P → SheetChange P
  sheet_invert (Create a) = Remove a
  sheet_invert (Remove a) = Create a
  sheet_invert (Move a b) = Move b a
  sheet_invert (Inside a p) = Inside a (T.invert p)

  -- Changes of one sheet commute only inside it, as below, and inside a sheet with a move of it.
  abbrev pub sharing_commute : SheetChange P → SheetChange P → Option (SheetChange P × SheetChange P)
  sharing_commute (Create a) c = None
  sharing_commute (Remove a) c = None
  sharing_commute (Move a b) (Create x) = None
  sharing_commute (Move a b) (Remove x) = None
  sharing_commute (Move a b) (Move x y) = None
  sharing_commute (Move a b) (Inside x p) = cond (same_sheet x b) (Some (Inside a p, Move a b)) None
  sharing_commute (Inside x p) (Create a) = None
  sharing_commute (Inside x p) (Remove a) = None
  sharing_commute (Inside x p) (Move a b) = cond (same_sheet x a) (Some (Move a b, Inside b p)) None
  sharing_commute (Inside x p) (Inside y q) = both (Inside y) (Inside x) (T.commute p q)

  -- Changes that share no sheet always commute, and neither is changed.
  abbrev pub sheet_commute : SheetChange P → SheetChange P → Option (SheetChange P × SheetChange P)
  sheet_commute c d = cond (share c d) (sharing_commute c d) (Some (d, c))

  -- only inside a sheet does anything grow
  abbrev pub sheet_growth : SheetChange P → ℕ
  sheet_growth (Create a) = 0
  sheet_growth (Remove a) = 0
  sheet_growth (Move a b) = 0
  sheet_growth (Inside a p) = T.growth p

  -- a change has sheets with a place, and a move has two
  abbrev pub sheet_written : SheetChange P → Bool
  sheet_written (Create a) = nat_lt a.0 4
  sheet_written (Remove a) = nat_lt a.0 4
  sheet_written (Move a b) = nat_lt a.0 4 && (nat_lt b.0 4 && not (same_sheet a b))
  sheet_written (Inside a p) = nat_lt a.0 4 && T.written p

  -- too far only inside one sheet, as below
  abbrev pub sheet_far : SheetChange P → SheetChange P → Bool
  sheet_far (Create a) c = false
  sheet_far (Remove a) c = false
  sheet_far (Move a b) c = false
  sheet_far (Inside a p) (Create b) = false
  sheet_far (Inside a p) (Remove b) = false
  sheet_far (Inside a p) (Move b c) = false
  sheet_far (Inside a p) (Inside b q) = cond (same_sheet a b) (T.far p q) false

  -- without room only inside a sheet, as below
  abbrev pub sheet_full : SheetChange P → List (Option T.Doc) → Bool
  sheet_full (Create a) d = false
  sheet_full (Remove a) d = false
  sheet_full (Move a b) d = false
  sheet_full (Inside a p) d = passing (passing (T.full p)) (slice_get d a.0)

  -- the size of a sheet, none if it is absent
  abbrev pub sheet_size : Option T.Doc → ℕ
  sheet_size None = 0
  sheet_size (Some x) = T.size x

  -- the words can hold a sheet
  abbrev pub sheet_fits : Option T.Doc → Type 0
  sheet_fits None = Unit {0}
  sheet_fits (Some x) = T.fits x

  -- a sheet is absent
  abbrev pub absent : Option T.Doc → Bool
  absent None = true
  absent (Some x) = false

  -- A sheet is 1 and then its words if it is there, else all zeros.
  abbrev pub sheet_encode : Option T.Doc → List ℕ
  sheet_encode None = replicate (1 + T.width) 0
  sheet_encode (Some x) = 1 ∷ T.encode x

  -- The kind, of four sheets.
  abbrev pub sheets : Theory (SheetChange P) (SheetFault F)
  sheets = record {
    Doc = List (Option T.Doc);
    fresh = replicate 4 None;
    blank = λ d. (length d == 4) && list_all absent d;
    size = sum_by sheet_size;
    apply = sheet_apply;
    invert = sheet_invert;
    commute = sheet_commute;
    growth = sheet_growth;
    written = sheet_written;
    far = sheet_far;
    full = sheet_full;
    fits = λ d. (length d ≡ 4) × AllByRecursion sheet_fits d;
    width = 4 * (1 + T.width);
    encode = flat_map sheet_encode;
  }

-- The words of every sheet that the change is not of are as they were, where a sheet has w words.
abbrev pub Others : {P : Type 0} → SheetChange P → ℕ → List ℕ → List ℕ → Type 0
Others c w was left = (x : Sheet) → touches c x ≡ false → words_of w x.0 left ≡ words_of w x.0 was

-- What the words tell of a sheet, where a sheet has w words: that it has no place, is absent or is there.
abbrev pub told : ℕ → Sheet → List ℕ → Option (Option (Unit {0}))
told w a run = cond (nat_lt a.0 4) (Some (cond (slice_index run (a.0 * w) == 0) None (Some tt))) None

-- where the words of a sheet begin, if it is there ...
abbrev pub there_at : {F : Type 0} → ℕ → Sheet → List ℕ → Result ℕ (Failure (SheetFault F))
there_at w a run = done_or_fault (if_there a (λ _. Ok (a.0 * w)) (told w a run))

-- ... or if it is absent
abbrev pub absent_at : {F : Type 0} → ℕ → Sheet → List ℕ → Result ℕ (Failure (SheetFault F))
absent_at w a run = done_or_fault (if_absent a (Ok (a.0 * w)) (told w a run))

-- n words moved from one place to another, and zeros left where they were
abbrev pub moved_words : ℕ → ℕ → ℕ → List ℕ → List ℕ
moved_words from to n run = paste (paste run to (drop from run) n) from (replicate n 0) n

-- A run is four runs of w words, one behind the other.
abbrev pub FourRuns : ℕ → List ℕ → Type 0
FourRuns w run = (length run ≡ 4 * w) × (0 < w)

-- A run holds four sheets of w words, where w is a sheet's number of words in the kind T.
abbrev pub FourSheets : {P F : Type 0} → Theory P F → ℕ → List ℕ → Type 0
FourSheets T w run = (w ≡ 1 + T.width) × (length run ≡ 4 * w) × (4 * w < largest)

-- What a change answers and leaves of such a run: what applying has to, and the words of the other sheets as they were.
pub record Worked {P F : Type 0} (T : Theory P F) (c : SheetChange P) (was : List ℕ) (r : Result (Unit {0}) (Failure (SheetFault F))) (left : List ℕ) : Type 0 where
  pub applied : Applied (sheets T) c was r left
  pub others : Others c (1 + T.width) was left
