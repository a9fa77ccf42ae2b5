use Rattle.std.proofs.Common.{◌≡◌, ◌+◌, ◌<◌, length, Ok, ◌∙◌, rules}
use Rattle.std.proofs.lemmas.Result.{err_from_is_err_and}
use Rattle.kinds.specs.Parts.{part}
use Rattle.kinds.specs.Sequences.{found_at}
use Rattle.rows.proofs.Passing.{none_passed, all_passed, stopped, one_passed, whole}
use Rattle.rows.proofs.pass.pass_over.Goals as goal

pub loop-step-init : goal.loop-step-init
loop-step-init g c = none_passed g.K.Kind.theory c.args.row.now c.args.count

pub returns-in_err-map_err : goal.returns-in_err-map_err
returns-in_err-map_err g c =
    let long : length c.loop-step.row ≡ length c.args.row.now = search rules in
    let within : c.loop-step.step-counter + c.args.count < length c.loop-step.row = search rules in
    let k : part (λ (u : Unit {0}). u) (found_at c.loop-step.step-counter) c.carry_left.result ≡ c.map_err.result = search rules in
    let h = stopped g.K.Kind.theory c.args.row.now c.args.count c.loop-step.row c.loop-step.step-counter c.loop-step.invariant long within
    c.carry_left.result c.carry_left.new.row c.carry_left.ensures _ c.carry_left.new.row (k ∙ c.in_err-map_err.was) in
    search (rules, err_from_is_err_and, h, whole g.K.Kind.theory c.args.row.now c.args.count _ _ h)

pub loop-step-preserved : goal.loop-step-preserved
loop-step-preserved g c =
    let long : length c.loop-step.row ≡ length c.args.row.now = search rules in
    let within : c.loop-step.step-counter + c.args.count < length c.loop-step.row = search rules in
    let done : c.carry_left.result ≡ Ok tt = search rules in
    one_passed g.K.Kind.theory c.args.row.now c.args.count c.loop-step.row c.loop-step.step-counter c.loop-step.invariant long within
    c.carry_left.result c.carry_left.new.row c.carry_left.ensures done c.carry_left.auto.row

pub returns : goal.returns
returns g c =
    let h = all_passed g.K.Kind.theory c.args.row.now c.args.count c.loop-step.row c.loop-step.step-counter c.loop-step.invariant (search rules) (search rules) in
    record { passed = h; whole = whole g.K.Kind.theory c.args.row.now c.args.count _ _ h; within = search rules }
