use Rattle.std.proofs.Common.{◌≡◌, ◌+◌, ◌-◌, ◌<◌, length, Ok, rules}
use borrow.Rule.Slice.PartMut.{put_mid}
use Rattle.std.proofs.lemmas.Result.{err_from_is_err_and}
use Rattle.histories.specs.Named.{named}
use Rattle.needs.proofs.GatheringRow.{all_met, not_needed, stopped, came}
use Rattle.needs.proofs.GatheringFlat.{of_row}
use Rattle.needs.proofs.gather.gather.Goals as goal
use Rattle.needs.proofs.gather.gather.Goals.{then-holds_name+in_ok-carried, else-holds_name}

pub returns-in_err-carried : goal.returns-in_err-carried
returns-in_err-carried g c =
    let within : c.loop-i.i < length c.loop-i.row = search rules in
    let p = err_from_is_err_and c.from_residual.result c.from_residual.ensures.1 in
    let k = stopped (named g.K.Kind.theory) (λ c. c.name) c.args.needs.now c.args.row.now c.loop-i.row c.loop-i.needed c.loop-i.i c.loop-i.invariant within c.index-row-i.result
    c.if-holds_name.ensures c.carry_left-carried.new.row c.carry_left-carried.result c.carry_left-carried.ensures c.in_err-carried.field-0.0
    (put_mid c.loop-i.needed (c.loop-i.i + 1 - c.loop-i.needed) c.loop-i.row c.carry_left-carried.new.row) c.in_err-carried.was in
    rw (p.1, p.2) (record { changes = k; patches = of_row g.K.Kind.theory c.args.needs.now _ _ _ k })

pub loop-i-preserved : goal.loop-i-preserved
loop-i-preserved g c =
    let within : c.loop-i.i < length c.loop-i.row = search rules in
    elim c.if-holds_name.branch [
      | then-holds_name+in_ok-carried w ↦
          let done : w.carry_left-carried.result ≡ Ok tt = search rules in
          rw (w.row-is, w.needed-is) (came (named g.K.Kind.theory) (λ c. c.name) c.args.needs.now c.args.row.now c.loop-i.row c.loop-i.needed c.loop-i.i c.loop-i.invariant within c.index-row-i.result
          w.if-holds_name.ensures w.carry_left-carried.new.row w.carry_left-carried.result w.carry_left-carried.ensures done w.carry_left-carried.auto.row)
      | else-holds_name w ↦
          rw (w.row-is, w.needed-is) (not_needed (named g.K.Kind.theory) (λ c. c.name) c.args.needs.now c.args.row.now c.loop-i.row c.loop-i.needed c.loop-i.i c.loop-i.invariant within c.index-row-i.result
          w.if-holds_name.ensures)
    ]

pub returns : goal.returns
returns g c =
    let k = all_met (named g.K.Kind.theory) (λ c. c.name) c.args.needs.now c.args.row.now c.loop-i.row c.loop-i.needed c.loop-i.i c.loop-i.invariant (search rules) in
    record { changes = k; patches = of_row g.K.Kind.theory c.args.needs.now _ _ _ k }
