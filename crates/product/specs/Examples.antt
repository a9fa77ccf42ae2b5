-- Four worked examples on single patches, as consequences of the rules.
use Rattle.std.specs.Prelude.{◌≡◌, ℕ, ℤ, pos, None}
use Rattle.kinds.specs.Laws.{Commutes}
use Rattle.lists.specs.declared.hunk.Lines.TheVariants.{the_data as Lines, Zero, One}
use Rattle.lines.specs.declared.rule.Rule.{Rule}
use Rattle.pairs.specs.declared.Steps.TheVariants.{One as Only}
use Rattle.sheets.specs.declared.SheetChange.TheVariants.{Inside}
use Rattle.sides.specs.declared.Side.TheVariants.{Left, Right}
use Rattle.product.specs.Controller.{Step, Change, controller}

-- a step in sheet 0 of module 0
abbrev in_basic : Step → Change
in_basic s = record { «module» = record { 0 = 0 }; patch = Inside (record { 0 = 0 }) (Only s) }

-- at s: old → new, on the rules
abbrev pub at : ℕ → Lines Rule → Lines Rule → Change
at s old new = in_basic (Right (Left (record { start = s; old = old; new = new })))

-- the cell of a row and a column: old → new
abbrev pub cell : ℕ → ℕ → ℤ → ℤ → Change
cell r c old new = in_basic (Right (Right (record { cell = record { row = r; column = c }; old = old; new = new })))

-- q depends on p
abbrev pub Refused : Change → Change → Type 0
Refused p q = controller.commute p q ≡ None

pub record Examples : Type 0 where
  -- an insertion behind another is renumbered when it goes first
  pub renumbered : (s w : Rule) → Commutes controller (at 1 Zero (One s)) (at 0 Zero (One w)) (at 0 Zero (One w)) (at 2 Zero (One s))
  -- an insertion that touches another depends on it
  pub touching : (s w : Rule) → Refused (at 0 Zero (One w)) (at 1 Zero (One s))
  -- changes of one cell depend on each other, changes of two cells do not
  pub one_cell : Refused (cell 2 3 (pos 10) (pos 12)) (cell 2 3 (pos 12) (pos 15))
  pub two_cells : Commutes controller (cell 2 3 (pos 10) (pos 12)) (cell 2 4 (pos 12) (pos 15)) (cell 2 4 (pos 12) (pos 15)) (cell 2 3 (pos 10) (pos 12))
  -- replacements that touch depend on each other
  pub neighbours : (a b c d : Rule) → Refused (at 0 (One a) (One b)) (at 1 (One c) (One d))
