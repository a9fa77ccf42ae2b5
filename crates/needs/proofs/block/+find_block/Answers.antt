use Rattle.std.proofs.Common.{◌<◌, rules}
use Rattle.std.proofs.lemmas.Result.{err_from_is_err_and}
use Rattle.needs.proofs.Searching.{alone, first_some, stopped, tried_on}
use Rattle.needs.proofs.block.+find_block.Goals as goal

pub returns-then-before-eq0-clause-found : goal.returns-then-before-eq0-clause-found
returns-then-before-eq0-clause-found g t c =
    alone g.K.Kind.theory c.args.row.now c.args.work.now c.args.count c.saturating_sub-before.result c.saturating_sub-before.ensures c.if-before-eq0.true

pub find_block-requires : goal.find_block-requires
find_block-requires g t c κs within =
    let h : 0 < c.leading-first.result =
    first_some g.K.Kind.theory c.args.row.now c.args.work.now c.args.count c.saturating_sub-before.result c.saturating_sub-before.ensures c.if-before-eq0.false
    c.leading-first.result c.index-row-0.result c.leading-first.ensures.counted in
    search rules

pub returns-in_err-needs-clause-found : goal.returns-in_err-needs-clause-found
returns-in_err-needs-clause-found g t c =
    search (
      rules,
      err_from_is_err_and,
      stopped g.K.Kind.theory c.args.row.now c.args.work.now c.args.count c.saturating_sub-before.result c.saturating_sub-before.ensures c.if-before-eq0.false
          c.leading-first.result c.index-row-0.result c.leading-first.ensures.counted c.find_block.new.row c.find_block.new.row _ c.in_err-needs.ensures.found,
    )

pub returns-clause-found : goal.returns-clause-found
returns-clause-found g t c =
    tried_on g.K.Kind.theory c.args.row.now c.args.work.now c.args.count c.saturating_sub-before.result c.saturating_sub-before.ensures c.if-before-eq0.false
    c.leading-first.result c.index-row-0.result c.leading-first.ensures.counted
    _ c.find_block.new.row c.try_on_block.new.row c.find_block.new.work c.try_on_block.result
    c.in_ok-needs.ensures.found c.find_block.auto.work (search rules) c.try_on_block.ensures.found
