-- A fault of a change, told by its cause and its place, and as six numbers.
use Rattle.std.specs.Prelude.{ℕ, Some, None, Option}
use Rattle.lists.specs.declared.hunk.ListFault.TheVariants.{PastEnd as Ends, Differs}
use Rattle.modules.specs.declared.Module.{Module}
use Rattle.modules.specs.declared.ModuleFault.TheVariants.{NoModule, Inside}
use Rattle.sheets.specs.declared.Sheet.{Sheet}
use Rattle.sheets.specs.declared.SheetFault.TheVariants.{Absent, There, NotFresh as Filled, Inside as InSheet}
use Rattle.sides.specs.declared.Side.TheVariants.{Left, Right}
use Rattle.tables.specs.declared.CellFault.TheVariants.{Differs as OtherValue}
use Rattle.tables.specs.Table.{place}
use Rattle.product.specs.declared.telling.Cause.{Cause}
use Rattle.product.specs.declared.telling.Cause.TheVariants.{SheetAbsent, SheetThere, NotFresh, PastEnd, LineDiffers, CellDiffers}
use Rattle.product.specs.declared.telling.Numbers.{Numbers}
use Rattle.product.specs.declared.telling.Part.{Part}
use Rattle.product.specs.declared.telling.Part.TheVariants.{Notes, Rules, Table}
use Rattle.product.specs.declared.telling.Place.{Place}
use Rattle.product.specs.declared.telling.Told.{Told}
use Rattle.product.specs.Controller.{StepFault, ChangeFault}

-- the number of a cause
abbrev pub cause_number : Cause → ℕ
cause_number SheetAbsent = 1
cause_number SheetThere = 2
cause_number NotFresh = 3
cause_number PastEnd = 4
cause_number LineDiffers = 5
cause_number CellDiffers = 6

-- the number of a part
abbrev pub part_number : Part → ℕ
part_number Notes = 0
part_number Rules = 1
part_number Table = 2

-- the cause, the part and the position: past the end, at the list's length; old line differs, at the line; cell differs,
-- at row * 8 + column
abbrev pub found : StepFault → Cause × Part × ℕ
found (Left (Ends n)) = (PastEnd, Notes, n)
found (Left (Differs k)) = (LineDiffers, Notes, k)
found (Right (Left (Ends n))) = (PastEnd, Rules, n)
found (Right (Left (Differs k))) = (LineDiffers, Rules, k)
found (Right (Right (OtherValue c))) = (CellDiffers, Table, place c)

abbrev pub told_sheet : Cause → Module → Sheet → Told
told_sheet c m a = record { cause = c; «module» = m; sheet = a; place = None }

abbrev pub told_step : Module → Sheet → ℕ → Cause × Part × ℕ → Told
told_step m a n f = record { cause = f.0; «module» = m; sheet = a; place = Some (record { step = n; part = f.1; position = f.2 }) }

-- a module that is not there has no sheets: its sheet 0 is absent; a fault of a whole sheet has no place in it
abbrev pub told : ChangeFault → Told
told (NoModule m) = told_sheet SheetAbsent m (record { 0 = 0 })
told (Inside m (Absent a)) = told_sheet SheetAbsent m a
told (Inside m (There a)) = told_sheet SheetThere m a
told (Inside m (Filled a)) = told_sheet NotFresh m a
told (Inside m (InSheet a f)) = told_step m a f.step (found f.fault)

abbrev pub numbers_at : Cause → Module → Sheet → Option Place → Numbers
numbers_at c m a None = record { cause = cause_number c; «module» = m.0; sheet = a.0; step = 0; part = 0; position = 0 }
numbers_at c m a (Some p) = record { cause = cause_number c; «module» = m.0; sheet = a.0; step = p.step; part = part_number p.part; position = p.position }

-- the six numbers of a fault; those of a place are 0 where there is none
abbrev pub numbers_of : Told → Numbers
numbers_of t = numbers_at t.cause t.«module» t.sheet t.place
