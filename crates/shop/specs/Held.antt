-- What the memory of a shop holds.
use Rattle.std.specs.Prelude.{ℕ, List, [], map, length, take, vec_items, slice_index_or}
use Rattle.histories.specs.declared.named.Named.{Named}
use Rattle.forms.specs.Form.{grouped}
use Rattle.shop.specs.declared.repository.Repository.{Repository}
use Rattle.shop.specs.declared.shop.Shop.{Shop}
use Rattle.shop.specs.State.{State}

module _ {P : Type 0} where
  -- The changes of a repository's history, in its row.
  abbrev pub used : Repository P → List (Named P)
  used r = take r.count (vec_items r.row)

  -- How many changes its row has room for.
  abbrev pub room : Repository P → ℕ
  room r = length (vec_items r.row)

  -- The rows of all four, and that of repository r.
  abbrev pub rows_of : Shop P → List (List (Named P))
  rows_of s = map used s.repositories

  abbrev pub row_at : Shop P → ℕ → List (Named P)
  row_at s r = slice_index_or (rows_of s) r []

  abbrev pub rooms : Shop P → List ℕ
  rooms s = map room s.repositories

  -- The state that they hold.
  abbrev pub state_of : Shop P → State P
  state_of s = record { histories = map grouped (rows_of s); counter = s.counter }
