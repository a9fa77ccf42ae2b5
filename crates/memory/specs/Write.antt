-- What the rows of a shop hold after they were written to.
use Rattle.std.specs.Prelude.{◌≡◌, ℕ, ◌+◌, ◌<◌, cond, ◌&&◌, List, [], ◌++◌, length, take, drop, nat_le, slice_index, slice_index_or, slice_set}
use Rattle.histories.specs.declared.named.Named.{Named}
use Rattle.shop.specs.declared.shop.Shop.{Shop}
use Rattle.shop.specs.Held.{rooms, rows_of, row_at}

module _ {A : Type 0} where
  -- The first `count` entries, and none if there are fewer.
  abbrev pub first : ℕ → List A → List A
  first count xs = cond (nat_le count (length xs)) (take count xs) []

  -- Entries are appended to a row, if there is room for them.
  abbrev pub appended : ℕ → List A → List A → List A
  appended room row xs = row ++ cond (nat_le (length row + length xs) room) xs []

  -- A row becomes the first `count` of other entries, if there are so many and room for them.
  abbrev pub replaced : ℕ → List A → List A → ℕ → List A
  replaced room row xs count = cond (nat_le count (length xs) && nat_le count room) (take count xs) row

  -- The front of a row becomes other entries, if they fit in.
  abbrev pub covered : List A → List A → List A
  covered xs row = cond (nat_le (length xs) (length row)) (xs ++ drop (length xs) row) row

  -- What is told of a place of xs is the entry there.
  abbrev pub TellsEach : (ℕ → A → Type 0) → List A → Type 0
  TellsEach told xs = (i : ℕ) (x : A) → i < length xs → told i x → x ≡ slice_index_or xs i x

module _ {P : Type 0} where
  -- How many changes the row of repository r has room for.
  abbrev pub room_at : Shop P → ℕ → ℕ
  room_at s r = slice_index (rooms s) r

  -- The rows after changes were appended to that of repository r. A number that no repository has leaves all as they are.
  abbrev pub appended_at : Shop P → ℕ → List (Named P) → List (List (Named P))
  appended_at s r cs = slice_set (rows_of s) r (appended (room_at s r) (row_at s r) cs)

  -- The rows after that of repository r became the first `count` of other changes, likewise.
  abbrev pub replaced_at : Shop P → ℕ → List (Named P) → ℕ → List (List (Named P))
  replaced_at s r cs count = slice_set (rows_of s) r (replaced (room_at s r) (row_at s r) cs count)

  -- The rows become these, and all else of the shop stays.
  pub record RowsBecome (was left : Shop P) (new : List (List (Named P))) : Type 0 where
    pub rows : rows_of left ≡ new
    pub rooms : rooms left ≡ rooms was
    pub counter : left.counter ≡ was.counter
