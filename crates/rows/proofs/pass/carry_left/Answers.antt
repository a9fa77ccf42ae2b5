use Rattle.std.proofs.Common.{rules}
use Rattle.std.proofs.lemmas.Result.{err_from_is_err_and}
use Rattle.rows.proofs.Carrying.{at_first, stopped, one_nearer}
use Rattle.rows.proofs.pass.carry_left.Goals as goal

pub loop-i-init : goal.loop-i-init
loop-i-init g c = at_first g.K.Kind.theory c.args.row.now

pub returns-in_err-q : goal.returns-in_err-q
returns-in_err-q g c =
    search (
      rules,
      err_from_is_err_and,
      stopped g.K.Kind.theory c.args.row.now c.loop-i.row c.loop-i.i c.loop-i.invariant (search rules) c.index-row-i.result c.index-row-i-in-loop-i.result c.commute.result
          c.index-row-i.is c.index-row-i-in-loop-i.is c.commute.ensures _ c.loop-i.row c.in_err-q.was,
    )

pub loop-i-preserved : goal.loop-i-preserved
loop-i-preserved g c =
    one_nearer g.K.Kind.theory c.args.row.now c.loop-i.row c.loop-i.i c.loop-i.invariant (search rules) c.index-row-i.result c.index-row-i-in-loop-i.result c.commute.result
    c.index-row-i.is c.index-row-i-in-loop-i.is c.commute.ensures (c.in_ok-q.q, c.in_ok-q.p) c.in_ok-q.was
