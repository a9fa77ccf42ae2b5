use Rattle.std.proofs.Common.{◌≡◌, ◌+◌, ◌<◌, length, Ok, sym, ap, ◌∙◌, rules}
use Rattle.std.proofs.lemmas.Result.{err_from_is_err_and}
use Rattle.kinds.specs.Parts.{part}
use Rattle.histories.specs.History.{stopped_at}
use Rattle.histories.proofs.PassingBy.{none_passed, stopped, one_passed}
use Rattle.histories.proofs.flat.pass_rest.Goals as goal

pub loop-start-init : goal.loop-start-init
loop-start-init g c = none_passed g.K.Kind.theory c.args.row.now c.args.count

pub returns-in_err-map_err : goal.returns-in_err-map_err
returns-in_err-map_err g c =
    let within : c.loop-start.start + c.args.count < length c.loop-start.row = search rules in
    let k : part (λ (u : Unit {0}). u) (stopped_at (λ n. n) c.index-row-start.result.name) c.carry_left-carried.result ≡ c.map_err.result = search rules in
    search (
      rules,
      err_from_is_err_and,
      stopped g.K.Kind.theory c.args.row.now c.args.count c.loop-start.row c.loop-start.start c.loop-start.invariant within c.index-row-start.result
          c.carry_left-carried.result c.carry_left-carried.new.row c.carry_left-carried.ensures _ c.carry_left-carried.new.row
          (ap (λ x. part (λ (u : Unit {0}). u) (stopped_at (λ n. n) x.name) c.carry_left-carried.result) (sym c.index-row-start.is) ∙ k ∙ c.in_err-map_err.was),
    )

pub loop-start-preserved : goal.loop-start-preserved
loop-start-preserved g c =
    let within : c.loop-start.start + c.args.count < length c.loop-start.row = search rules in
    let done : c.carry_left-carried.result ≡ Ok tt = search rules in
    one_passed g.K.Kind.theory c.args.row.now c.args.count c.loop-start.row c.loop-start.start c.loop-start.invariant within c.index-row-start.result
    c.carry_left-carried.result c.carry_left-carried.new.row c.carry_left-carried.ensures done c.carry_left-carried.auto.row
