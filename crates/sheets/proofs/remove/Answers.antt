use Rattle.std.proofs.Common.{sym, arith}
use Rattle.std.proofs.lemmas.Result.{err_from_is_err_and}
use Rattle.sheets.proofs.Working.{remove_fails, remove_not_fresh, remove_works}
use Rattle.sheets.proofs.remove.Goals as goal

pub returns-in_err-at : goal.returns-in_err-at
returns-in_err-at g c =
    let e = err_from_is_err_and c.from_residual.result c.from_residual.ensures.1 in
    rw (e.1, e.2) (remove_fails g.K.Kind.theory g.met.K.Kind.lawful c.args.width c.args.run.now c.requires c.args.a c.in_err-at.field-0.0 (sym c.in_err-at.ensures.found))

pub returns-then-not-all_zero : goal.returns-then-not-all_zero
returns-then-not-all_zero g c =
    remove_not_fresh g.K.Kind.theory g.met.K.Kind.lawful c.args.width c.args.run.now c.requires c.args.a c.in_ok-at.at _ (sym c.in_ok-at.ensures.found) (omega (arith, c.requires.0)) (sym c.if-not-all_zero.ensures)

pub returns : goal.returns
returns g c =
    remove_works g.K.Kind.theory g.met.K.Kind.lawful c.args.width c.args.run.now c.requires c.args.a c.in_ok-at.at _ (sym c.in_ok-at.ensures.found) (omega (arith, c.requires.0)) (sym c.if-not-all_zero.ensures)
