use Rattle.std.proofs.Common.{Ok, sym, refl, ap, rules}
use Rattle.std.proofs.lemmas.Result.{err_from_is_err_and}
use Rattle.histories.proofs.PassingBy.{at_end}
use Rattle.histories.proofs.flat.pass_to_end.Goals as goal

pub returns-in_err-pass_rest : goal.returns-in_err-pass_rest
returns-in_err-pass_rest g c =
    let k = at_end g.K.Kind.theory c.args.row.now c.pass_rest.new.row c.args.place.start c.args.place.count _ _ refl c.in_err-pass_rest.ensures in
    search (rules, err_from_is_err_and, k)

pub returns : goal.returns
returns g c =
    at_end g.K.Kind.theory c.args.row.now c.pass_rest.new.row c.args.place.start c.args.place.count _ _ (ap Ok (sym c.saturating_sub.ensures)) c.in_ok-pass_rest.ensures
