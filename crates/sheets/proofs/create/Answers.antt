use Rattle.std.proofs.Common.{rules}
use Rattle.sheets.proofs.Working.{create_fails, create_works}
use Rattle.sheets.proofs.create.Goals as goal

pub returns-in_err-at : goal.returns-in_err-at
returns-in_err-at g c = search (rules, create_fails g.K.Kind.theory g.met.K.Kind.lawful)

pub returns : goal.returns
returns g c = search (rules, create_works g.K.Kind.theory g.met.K.Kind.lawful)
