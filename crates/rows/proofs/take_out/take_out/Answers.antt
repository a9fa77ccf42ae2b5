use Rattle.rows.proofs.Taking.{nothing_there, taken_there}
use Rattle.rows.proofs.take_out.take_out.Goals as goal

pub returns-then-n-place : goal.returns-then-n-place
returns-then-n-place g c = nothing_there g.K.Kind.theory c.args.row.now c.args.place.start c.args.place.count c.if-n-place.true

pub returns : goal.returns
returns g c =
    taken_there g.K.Kind.theory c.args.row.now c.args.place.start c.args.place.count c.if-n-place.false c.pass_over.new.row c.min.result c.min.ensures c.in_ok-pass_over.ensures.passed
