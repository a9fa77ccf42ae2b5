use Rattle.shop.proofs.Promising.{promise_kept}
use Rattle.calls.proofs.SameNames.{is_level}
use Rattle.calls.proofs.level.level.Goals as goal

pub returns-in_err-in_shop-clause-promise : goal.returns-in_err-in_shop-clause-promise
returns-in_err-in_shop-clause-promise g c = promise_kept g.K.Kind.theory g.met.K.Kind.lawful

pub returns-in_err-in_shop-2-clause-promise : goal.returns-in_err-in_shop-2-clause-promise
returns-in_err-in_shop-2-clause-promise g c = promise_kept g.K.Kind.theory g.met.K.Kind.lawful

pub returns-clause-level : goal.returns-clause-level
returns-clause-level g c i j = is_level c.args.shop.now c.args.first c.args.second c.same_names.result (rw (c.row.ensures, c.row-2.ensures) at c.same_names.ensures)

pub returns-clause-promise : goal.returns-clause-promise
returns-clause-promise g c = promise_kept g.K.Kind.theory g.met.K.Kind.lawful
