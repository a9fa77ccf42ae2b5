-- When a change takes a table to another.
use Rattle.std.specs.Prelude.{◌≡◌, ℕ, ◌<◌, true, false, ◌&&◌, List, length, set, ℤ, pos, slice_index_or, slice_set, refl}
use Rattle.std.proofs.Common.{⊎_elim, arith}
use Rattle.std.proofs.lemmas.Bool.{and_parts, and_from, cases_Bool, lt-ltb, ltb-true}
use Rattle.kinds.specs.Laws.{Takes}
use Rattle.tables.specs.declared.CellChange.{CellChange}
use Rattle.tables.specs.Table.{table, in_table, place, holds, in_range}
use Rattle.tables.specs.Proofs.Values.{same_from_test, same_tests}

-- the change p takes the table d to the table e
pub record Changed (p : CellChange) (d e : List ℤ) : Type 0 where
  pub has : in_table p.cell ≡ true
  pub below : place p.cell < length d
  pub held : slice_index_or d (place p.cell) (pos 0) ≡ p.old
  pub put : e ≡ slice_set d (place p.cell) p.new

pub held_parts : (p : CellChange) (d : List ℤ) → holds d p.cell p.old ≡ true → Changed p d (slice_set d (place p.cell) p.new)
held_parts p d h =
    let (i, r) = and_parts _ _ h in
    let (l, s) = and_parts _ _ r in
    record { has = i; below = ltb-true _ _ l; held = same_from_test _ _ s; put = refl }

pub changed : (p : CellChange) (d e : List ℤ) → Takes table p d e → Changed p d e
changed p d e h = ⊎_elim yes_held not_held (cases_Bool (holds d p.cell p.old))
  where
    yes_held : holds d p.cell p.old ≡ true → Changed p d e
    yes_held k = let g = rw k at h in let s : set d (place p.cell) p.new ≡ e = cc in rw s at (held_parts p d k)

    not_held : holds d p.cell p.old ≡ false → Changed p d e
    not_held k = let g = rw k at h in absurd (let z : ◌≡◌ {A = ℕ} 0 1 = cc in omega arith)

pub takes : (p : CellChange) (d e : List ℤ) → Changed p d e → Takes table p d e
takes p d e c =
    let h : holds d p.cell p.old ≡ true = and_from _ _ c.has (and_from _ _ (lt-ltb _ _ c.below) (rw c.held (same_tests p.old))) in
    rw (h, c.put)

pub written_parts : (p : CellChange) → table.written p ≡ true → (in_table p.cell ≡ true) × (in_range p.old ≡ true) × (in_range p.new ≡ true)
written_parts p h =
    let (a, r) = and_parts (in_table p.cell) (in_range p.old && in_range p.new) h in
    let (b, c) = and_parts (in_range p.old) (in_range p.new) r in
    (a, b, c)
