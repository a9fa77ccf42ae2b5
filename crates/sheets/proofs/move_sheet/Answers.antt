use Rattle.std.proofs.Common.{sym, subst}
use Rattle.std.proofs.lemmas.Result.{err_from_is_err_and}
use Rattle.sheets.specs.declared.SheetChange.TheVariants.{Move}
use Rattle.sheets.specs.Sheets.{Worked}
use Rattle.sheets.proofs.Working.{move_no_source, move_no_target, move_works}
use Rattle.sheets.proofs.move_sheet.Goals as goal

pub returns-in_err-source : goal.returns-in_err-source
returns-in_err-source g c =
    let e = err_from_is_err_and c.from_residual.result c.from_residual.ensures.1 in
    rw (e.1, e.2) (move_no_source g.K.Kind.theory g.met.K.Kind.lawful c.args.width c.args.run.now c.requires c.args.from c.args.to c.in_err-source.field-0.0 (sym c.in_err-source.ensures.found))

pub returns-in_err-target : goal.returns-in_err-target
returns-in_err-target g c =
    let e = err_from_is_err_and c.from_residual-in_err-target.result c.from_residual-in_err-target.ensures.1 in
    rw (e.1, e.2) (move_no_target g.K.Kind.theory g.met.K.Kind.lawful c.args.width c.args.run.now c.requires c.args.from c.args.to c.in_ok-source.source c.in_err-target.field-0.0
    (sym c.in_ok-source.ensures.found) (sym c.in_err-target.ensures.found))

pub returns : goal.returns
returns g c =
    subst (λ v. Worked g.K.Kind.theory (Move c.args.from c.args.to) c.args.run.now _ v) (sym c.move_words.ensures)
    (move_works g.K.Kind.theory g.met.K.Kind.lawful c.args.width c.args.run.now c.requires c.args.from c.args.to c.in_ok-source.source c.in_ok-target.target
    (sym c.in_ok-source.ensures.found) (sym c.in_ok-target.ensures.found))
