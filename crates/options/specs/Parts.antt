-- Where an option stands among the others.
use Rattle.std.specs.Prelude.{◌≡◌, ℕ, ◌<◌, List, length, Some, None, vec_items, Option, ◌≢◌, slice_index_or}
use Rattle.options.specs.declared.parts.Part.{Part}

-- The option at the place k has the name.
abbrev pub NamedAt : List Part → List ℕ → ℕ → Type 0
NamedAt parts name k = (p : Part) → vec_items (slice_index_or parts k p).name ≡ name

-- No option before the place k has the name.
abbrev pub NoneBefore : List Part → List ℕ → ℕ → Type 0
NoneBefore parts name k = (j : ℕ) (p : Part) → j < k → vec_items (slice_index_or parts j p).name ≢ name

-- The place of the first option of the name, or none where no option has it.
abbrev pub FirstNamed : List Part → List ℕ → Option ℕ → Type 0
FirstNamed parts name None = NoneBefore parts name (length parts)
FirstNamed parts name (Some k) = (k < length parts) × NamedAt parts name k × NoneBefore parts name k
