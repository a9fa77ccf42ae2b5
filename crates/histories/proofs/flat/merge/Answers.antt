use Rattle.std.proofs.Common.{◌≡◌, ◌<◌, ◌≤◌, ◌-◌, Ok, get_or, length, ◌∙◌, arith, rules}
use borrow.Author.Rules.{scaled_fits≤}
use Rattle.std.proofs.lemmas.Result.{err_from_is_err_and}
use Rattle.kinds.specs.Parts.{part}
use Rattle.histories.specs.History.{stopped_at}
use Rattle.histories.proofs.MergingFlat.{at_first, at_last, first_leads, stopped_over, goes_on}
use Rattle.histories.proofs.flat.merge.Goals as goal

pub loop-first-init : goal.loop-first-init
loop-first-init g c =
    (let a = c.if-saturating_sub-others.false in let b = c.saturating_sub.ensures in omega arith, omega arith, at_first g.K.Kind.theory c.args.others.now c.args.work.now c.args.count)

pub overflow_sub-start : goal.overflow_sub-start
overflow_sub-start g c = let some : 0 < length c.loop-first.left.now = search rules in let a = c.loop-first.invariant.0 in omega arith

pub overflow_sub-start-in-Some : goal.overflow_sub-start-in-Some
overflow_sub-start-in-Some g c = let a = c.loop-first.invariant.0 in let b = c.split_at.ensures.front_len in let d = c.leading.ensures.within in omega arith

pub offset_bounds-work-start : goal.offset_bounds-work-start
offset_bounds-work-start g c =
    let b = c.loop-first.invariant.1 in
    let a : c.loop-first.end - c.args.count - length c.split_at.result.0.now ≤ length c.args.work.now = let d = c.loop-first.auto.work in omega arith in
    scaled_fits≤ _ _ _ a (search rules)

pub slice_bounds-merge_one-end : goal.slice_bounds-merge_one-end
slice_bounds-merge_one-end g c = let a = c.loop-first.invariant.1 in search rules

pub merge_one-merged-requires : goal.merge_one-merged-requires
merge_one-merged-requires g c = let a = c.loop-first.invariant.0 in let b = c.loop-first.invariant.1 in search rules

pub returns-in_err-map_err : goal.returns-in_err-map_err
returns-in_err-map_err g c =
    let some : 0 < length c.loop-first.left.now = search rules in
    let is : get_or c.loop-first.left.now 0 c.in-Some.first.now ≡ c.in-Some.first.now = search rules in
    let k : part (λ (u : Unit {0}). u) (stopped_at (λ n. n) c.in-Some.first.now.name) c.merge_one-merged.result ≡ c.map_err.result = search rules in
    search (
      rules,
      err_from_is_err_and,
      stopped_over g.K.Kind.theory c.args.others.now c.args.work.now c.args.count c.loop-first.left.now c.loop-first.work c.split_at.result.0.now c.loop-first.end c.leading.result
          c.in-Some.first.now c.loop-first.invariant.2 some is c.leading.ensures.counted c.split_at.ensures.front c.merge_one-merged.result c.merge_one-merged.new.row c.merge_one-merged.ensures _ c.merge_one-merged.new.row
          (k ∙ c.in_err-map_err.was),
    )

pub overflow_sub-end : goal.overflow_sub-end
overflow_sub-end g c = let a = c.loop-first.invariant.0 in let b = c.split_at.ensures.front_len in let d = c.leading.ensures.within in omega arith

pub loop-first-smaller : goal.loop-first-smaller
loop-first-smaller g c =
    let some : 0 < length c.loop-first.left.now = search rules in
    let is : get_or c.loop-first.left.now 0 c.in-Some.first.now ≡ c.in-Some.first.now = search rules in
    let leads = first_leads g.K.Kind.theory c.args.others.now c.args.work.now c.args.count c.loop-first.left.now c.loop-first.work c.split_at.result.0.now c.loop-first.end c.leading.result
    c.in-Some.first.now c.loop-first.invariant.2 some is c.leading.ensures.counted c.split_at.ensures.front in
    let d = c.leading.ensures.within in
    let e = c.split_at.ensures.back_len in
    omega arith

pub loop-first-preserved : goal.loop-first-preserved
loop-first-preserved g c =
    let some : 0 < length c.loop-first.left.now = search rules in
    let is : get_or c.loop-first.left.now 0 c.in-Some.first.now ≡ c.in-Some.first.now = search rules in
    let done : c.merge_one-merged.result ≡ Ok tt = search rules in
    let a = c.loop-first.invariant.0 in
    let b = c.split_at.ensures.front_len in
    let d = c.leading.ensures.within in
    let e = c.split_at.ensures.back_len in (
      omega arith,
      let f = c.loop-first.invariant.1 in search rules,
      goes_on g.K.Kind.theory c.args.others.now c.args.work.now c.args.count c.loop-first.left.now c.loop-first.work c.split_at.result.0.now c.loop-first.end c.leading.result
          c.in-Some.first.now c.loop-first.invariant.2 some is c.leading.ensures.counted c.split_at.ensures.front c.merge_one-merged.result c.merge_one-merged.new.row c.merge_one-merged.ensures done
          c.split_at.result.1.now c.split_at.ensures.back,
    )

pub returns : goal.returns
returns g c = at_last g.K.Kind.theory c.args.others.now c.args.work.now c.args.count c.loop-first.left.now c.loop-first.work c.loop-first.end c.loop-first.invariant.2 (search rules)
