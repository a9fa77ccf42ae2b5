-- Lists of lines, and hunks as their patches.
use Rattle.std.specs.Prelude.{ℕ, ◌+◌, ◌-◌, ◌*◌, ◌≤◌, Bool, true, false, cond, ◌&&◌, ◌||◌, List, [], ◌∷◌, ◌++◌, length, take, drop, replicate, Some, None, Ok, Err, Option, Result, ◌==◌, nat_le, nat_lt}
use Rattle.std.specs.List.{flat_map}
use Rattle.kinds.specs.Theory.{Theory}
use Rattle.kinds.specs.Laws.{most}
use Rattle.lists.specs.declared.hunk.Lines.TheVariants.{the_data as Lines, Zero, One, Two}
use Rattle.lists.specs.declared.hunk.Hunk.{Hunk}
use Rattle.lists.specs.declared.hunk.ListFault.{ListFault}
use Rattle.lists.specs.declared.hunk.ListFault.TheVariants.{PastEnd, Differs}
use Rattle.lines.specs.Line.{Form}

-- the largest start of a hunk
abbrev pub last_start : ℕ
last_start = 65535

module _ {L : Type 0} where
  -- the lines, in order
  abbrev pub lines_of : Lines L → List L
  lines_of Zero = []
  lines_of (One a) = a ∷ []
  lines_of (Two a b) = a ∷ b ∷ []

  -- how many there are
  abbrev pub count : Lines L → ℕ
  count ls = length (lines_of ls)

  -- the inverse: old and new lines are exchanged
  abbrev pub exchanged : Hunk L → Hunk L
  exchanged h = record { start = h.start; old = h.new; new = h.old }

  -- the same lines at another start
  abbrev pub moved : Hunk L → ℕ → Hunk L
  moved h to = record { start = to; old = h.old; new = h.new }

  -- p and then q, as q and then p. They commute if at least one line lies between them
  abbrev pub hunks_commute : Hunk L → Hunk L → Option (Hunk L × Hunk L)
  hunks_commute p q =
      cond (nat_lt (p.start + count p.new) q.start) (Some (moved q (q.start - count p.new + count p.old), p))
      (cond (nat_lt (q.start + count q.old) p.start) (Some (q, moved p (p.start - count q.old + count q.new)))
      None)

  -- whether a new start is above the largest
  abbrev pub start_too_far : Option (Hunk L × Hunk L) → Bool
  start_too_far None = false
  start_too_far (Some r) = nat_lt last_start r.0.start || nat_lt last_start r.1.start

  -- whether there is a new list, and it outgrows the words
  abbrev pub too_long : Result (List L) ListFault → Bool
  too_long (Ok d) = nat_lt most (length d)
  too_long (Err f) = false

module _ {L : Type 0} (F : Form L) where
  -- the first place whose line is not the old one, where `at` is the place of the first of them
  abbrev pub first_differing : ℕ → List L → List L → Option ℕ
  first_differing at [] ds = None
  first_differing at (o ∷ os) [] = Some at
  first_differing at (o ∷ os) (d ∷ ds) = cond (F.same o d) (first_differing (at + 1) os ds) (Some at)

  -- the new lines in the place of the old ones, unless one differs
  abbrev pub replaced : Hunk L → List L → Option ℕ → Result (List L) ListFault
  replaced h d None = Ok (take h.start d ++ (lines_of h.new ++ drop (h.start + count h.old) d))
  replaced h d (Some at) = Err (Differs at)

  -- the new list. The old lines must end within the list, and stand there
  abbrev pub hunk_apply : Hunk L → List L → Result (List L) ListFault
  hunk_apply h d =
      cond (nat_le (h.start + count h.old) (length d))
      (replaced h d (first_differing h.start (lines_of h.old) (drop h.start d)))
      (Err (PastEnd (length d)))

  -- whether the fields of each make a line
  abbrev pub all_written : List L → Bool
  all_written [] = true
  all_written (l ∷ ls) = F.written l && all_written ls

  -- the start is in its range, there is a line, and each line can be written
  abbrev pub hunk_written : Hunk L → Bool
  hunk_written h = nat_le h.start last_start && (nat_lt 0 (count h.old + count h.new) && (all_written (lines_of h.old) && all_written (lines_of h.new)))

  -- the words of the lines, then zeros up to 120 lines
  abbrev pub filled_up : List L → List ℕ
  filled_up d = flat_map F.encode d ++ replicate ((most - length d) * F.width) 0

  -- the kind of lists whose lines have the form F. Their words are the length and then the lines
  abbrev pub lists : Theory (Hunk L) ListFault
  lists = record {
    Doc = List L;
    fresh = [];
    blank = λ d. (length d == 0);
    size = λ d. length d;
    apply = hunk_apply;
    invert = exchanged;
    commute = hunks_commute;
    growth = λ h. count h.new;
    written = hunk_written;
    far = λ p q. start_too_far (hunks_commute p q);
    full = λ h d. too_long (hunk_apply h d);
    fits = λ d. length d ≤ most;
    width = most * F.width + 1;
    encode = λ d. length d ∷ filled_up d;
  }
