-- A patch with all that it depends on, in a flat row.
use Rattle.std.specs.Prelude.{◌≡◌, ℕ, List, ◌++◌, length, Ok, Err, Result}
use Rattle.histories.specs.declared.Stop.{Stop}
use Rattle.histories.specs.declared.named.Named.{Named}
use Rattle.histories.specs.History.{Block}
use Rattle.histories.specs.Flat.{flat_of, flat}

module _ {P : Type 0} where
  -- the changes of a block: those of the needs, and then those of the patch itself
  abbrev pub flat_block : Block (Named (List P)) → List (Named P)
  flat_block b = flat b.needs ++ flat_of b.itself

  -- A row begins with a block whose patch has `count` changes, and r is the number of changes of the needs; or what stopped the search.
  abbrev pub Found : ℕ → Result (Block (Named (List P))) Stop → Result ℕ Stop → List (Named P) → Type 0
  Found count (Ok b) r left = (r ≡ Ok (length (flat b.needs))) × (length b.itself.changes ≡ count) × ((behind : List (Named P)) × (left ≡ flat_block b ++ behind))
  Found count (Err x) r left = r ≡ Err x
