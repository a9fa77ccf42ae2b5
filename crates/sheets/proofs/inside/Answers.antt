use Rattle.std.proofs.Common.{sym, arith, rules}
use Rattle.std.proofs.lemmas.Result.{err_from_is_err_and}
use Rattle.kinds.proofs.Parts.{failing_from_map_err}
use Rattle.sheets.specs.declared.SheetFault.TheVariants.{Inside as InSheet}
use Rattle.sheets.proofs.Working.{inside_fails, inside_works}
use Rattle.sheets.proofs.inside.Goals as goal

pub returns-in_err-at : goal.returns-in_err-at
returns-in_err-at g c =
    let e = err_from_is_err_and c.from_residual.result c.from_residual.ensures.1 in
    rw (e.1, e.2) (inside_fails g.K.Kind.theory g.met.K.Kind.lawful c.args.width c.args.run.now c.requires c.args.a c.args.p c.in_err-at.field-0.0 (sym c.in_err-at.ensures.found))

pub returns : goal.returns
returns g c =
    inside_works g.K.Kind.theory g.met.K.Kind.lawful c.args.width c.args.run.now c.requires c.args.a c.args.p c.in_ok-at.at _ c.apply.result _ c.apply.new.run
    (sym c.in_ok-at.ensures.found) (omega (arith, c.requires.0))
    (failing_from_map_err (InSheet c.args.a) c.apply.result c.map_err.result c.map_err.ensures.cases (λ e x h. search rules)) c.apply.auto.run c.apply.ensures
