-- The product's changes: modules over sheets over pairs over sides of notes and (sides of rules and table).
use Rattle.kinds.specs.Theory.{Theory}
use Rattle.kinds.specs.declared.steps.AtStep.{AtStep}
use Rattle.lists.specs.declared.hunk.Hunk.{Hunk}
use Rattle.lists.specs.declared.hunk.ListFault.{ListFault}
use Rattle.lines.specs.declared.note.Note.{Note}
use Rattle.lines.specs.declared.rule.Rule.{Rule}
use Rattle.lists.specs.Hunk.{lists}
use Rattle.lines.specs.Note.{note_form}
use Rattle.lines.specs.Rule.{rule_form}
use Rattle.modules.specs.declared.InModule.{InModule}
use Rattle.modules.specs.declared.ModuleFault.TheVariants.{the_data as ModuleFault}
use Rattle.modules.specs.Modules.{modules}
use Rattle.pairs.specs.declared.Steps.TheVariants.{the_data as Steps}
use Rattle.pairs.specs.Pairs.{pairs}
use Rattle.sheets.specs.declared.SheetChange.TheVariants.{the_data as SheetChange}
use Rattle.sheets.specs.declared.SheetFault.TheVariants.{the_data as SheetFault}
use Rattle.sheets.specs.Sheets.{sheets}
use Rattle.sides.specs.declared.Side.TheVariants.{the_data as Side}
use Rattle.sides.specs.Sides.{sides}
use Rattle.tables.specs.declared.CellChange.{CellChange}
use Rattle.tables.specs.declared.CellFault.{CellFault}
use Rattle.tables.specs.Table.{table}

-- a step changes the notes, the rules or the table of a sheet
abbrev pub Step : Type 0
Step = Side (Hunk Note) (Side (Hunk Rule) CellChange)

abbrev pub StepFault : Type 0
StepFault = Side ListFault (Side ListFault CellFault)

abbrev pub Change : Type 0
Change = InModule (SheetChange (Steps Step))

abbrev pub ChangeFault : Type 0
ChangeFault = ModuleFault (SheetFault (AtStep StepFault))

abbrev pub content : Theory Step StepFault
content = sides (lists note_form) (sides (lists rule_form) table)

abbrev pub controller : Theory Change ChangeFault
controller = modules (sheets (pairs content))
