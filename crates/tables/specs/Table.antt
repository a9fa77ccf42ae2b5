-- Tables of 8 by 8 cells, each of which holds a number from -32,768 to 32,767.
use Rattle.std.specs.Prelude.{◌≡◌, ℕ, ◌+◌, ◌*◌, ◌<◌, Bool, true, false, cond, ◌&&◌, List, [], ◌∷◌, map, length, replicate, ℤ, pos, negsuc, Some, None, Ok, Err, Option, Result, ◌==◌, int_le, nat_lt, slice_index_or, slice_set, unsigned_abs}
use Rattle.std.specs.Int.{int_rem_euclid}
use Rattle.std.specs.List.{AllByRecursion}
use Rattle.kinds.specs.Theory.{Theory}
use Rattle.tables.specs.declared.Cell.{Cell}
use Rattle.tables.specs.declared.CellChange.{CellChange}
use Rattle.tables.specs.declared.CellFault.{CellFault}
use Rattle.tables.specs.declared.CellFault.TheVariants.{Differs}

-- whether a table has the cell
abbrev pub in_table : Cell → Bool
in_table c = nat_lt c.row 8 && nat_lt c.column 8

-- where the cell stands among a table's cells, which are taken by rows
abbrev pub place : Cell → ℕ
place c = c.row * 8 + c.column

-- whether two cells are the same
abbrev pub same_cell : Cell → Cell → Bool
same_cell a b = a.row == b.row && a.column == b.column

-- whether two values are the same
abbrev pub same_value : ℤ → ℤ → Bool
same_value (pos a) (pos b) = a == b
same_value (pos a) (negsuc b) = false
same_value (negsuc a) (pos b) = false
same_value (negsuc a) (negsuc b) = a == b

-- whether a cell can hold the value
abbrev pub in_range : ℤ → Bool
in_range v = int_le (negsuc 32767) v && int_le v (pos 32767)

-- the word of a cell that holds the value: the value modulo 65,536
abbrev pub word : ℤ → ℕ
word v = unsigned_abs (int_rem_euclid v (pos 65536))

-- what the word w is read as: the value of which it is the word, and none above 65,535
abbrev pub Read : ℕ → Option ℤ → Type 0
Read w (Some v) = (in_range v ≡ true) × (w ≡ word v)
Read w None = 65535 < w

-- whether the table d has the cell, and the cell holds the value
abbrev pub holds : List ℤ → Cell → ℤ → Bool
holds d c v = in_table c && (nat_lt (place c) (length d) && same_value (slice_index_or d (place c) (pos 0)) v)

-- where the cell holds the old value, the new one is put
abbrev pub change_apply : CellChange → List ℤ → Result (List ℤ) CellFault
change_apply p d = cond (holds d p.cell p.old) (Ok (slice_set d (place p.cell) p.new)) (Err (Differs p.cell))

-- old and new value are exchanged
abbrev pub change_invert : CellChange → CellChange
change_invert p = record { cell = p.cell; old = p.new; new = p.old }

-- changes of different cells commute, and neither is changed
abbrev pub change_commute : CellChange → CellChange → Option (CellChange × CellChange)
change_commute p q = cond (same_cell p.cell q.cell) None (Some (q, p))

-- a change can be written if a table has its cell, which can hold both values
abbrev pub change_written : CellChange → Bool
change_written p = in_table p.cell && (in_range p.old && in_range p.new)

-- whether all values are 0
abbrev pub zeros : List ℤ → Bool
zeros [] = true
zeros (v ∷ vs) = same_value v (pos 0) && zeros vs

-- A document is the values of the cells, by rows. Sizes and growths are 0, and commuting changes no number, so nothing is overfull or too far.
abbrev pub table : Theory CellChange CellFault
table = record {
  Doc = List ℤ;
  fresh = replicate 64 (pos 0);
  blank = λ d. (length d == 64) && zeros d;
  size = λ d. 0;
  apply = change_apply;
  invert = change_invert;
  commute = change_commute;
  growth = λ p. 0;
  written = change_written;
  far = λ p q. false;
  full = λ p d. false;
  fits = λ d. (length d ≡ 64) × AllByRecursion (λ v. in_range v ≡ true) d;
  width = 64;
  encode = map word;
}
