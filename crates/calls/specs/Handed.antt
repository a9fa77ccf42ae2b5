-- The memory that is handed to a call.
use Rattle.std.specs.Prelude.{ℕ, List, ◌∷◌, length, Some, None}
use Rattle.histories.specs.declared.named.Named.{Named}
use Rattle.shop.specs.declared.shop.Shop.{Shop}
use Rattle.shop.specs.Calls.{Memory}
use Rattle.shop.specs.Held.{rooms}

-- The rows of the shop, and a work row.
abbrev pub with_work : {P : Type 0} → Shop P → List (Named P) → Memory
with_work s work = record { rows = length work ∷ rooms s; run = None }

-- The rows of the shop, and a document run.
abbrev pub with_run : {P : Type 0} → Shop P → List ℕ → Memory
with_run s run = record { rows = rooms s; run = Some (length run) }
