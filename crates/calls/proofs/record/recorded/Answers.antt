use Rattle.std.proofs.Common.{◌+◌, rules, sym, refl}
use Rattle.histories.specs.Named.{under}
use Rattle.calls.proofs.Called.{exit_is}
use Rattle.calls.proofs.Recorded.{applied}
use Rattle.calls.proofs.record.recorded.Goals as goal

pub returns-in_err-room_for-clause-document : goal.returns-in_err-room_for-clause-document
returns-in_err-room_for-clause-document g c w =
    search (rules, c.in_err-room_for.ensures (under (c.args.shop.now.counter + 1) c.args.changes.now) refl (sym c.growth_of.ensures))

pub returns-in_err-document-clause-document : goal.returns-in_err-document-clause-document
returns-in_err-document-clause-document g c w =
    let room = c.in_ok-room_for.ensures (under (c.args.shop.now.counter + 1) c.args.changes.now) refl (sym c.growth_of.ensures) in
    let left = c.in_err-document.ensures c.args.shop.now.counter c.in_ok-history.ensures.form w in
    search (rules, room, left)

pub returns-in_err-apply_changes-clause-document : goal.returns-in_err-apply_changes-clause-document
returns-in_err-apply_changes-clause-document g c w =
    let room = c.in_ok-room_for.ensures (under (c.args.shop.now.counter + 1) c.args.changes.now) refl (sym c.growth_of.ensures) in
    rw (exit_is _ c.from_residual-in_err-apply_changes.ensures.1) (applied g.K.Kind.theory c.args.shop.now c.args.number c.args.changes.now c.in_ok-history.history.now c.in_ok-history.ensures.row c.in_ok-history.ensures.history
    c.in_ok-name.name c.in_ok-name.ensures room g.met.K.Kind.lawful c.args.run.now c.document.new.run c.apply_changes.new.run _ w
    (c.in_ok-document.ensures c.args.shop.now.counter c.in_ok-history.ensures.form w) c.document.auto.run c.in_err-apply_changes.ensures)

pub returns-clause-document : goal.returns-clause-document
returns-clause-document g c w =
    let room = c.in_ok-room_for.ensures (under (c.args.shop.now.counter + 1) c.args.changes.now) refl (sym c.growth_of.ensures) in
    applied g.K.Kind.theory c.args.shop.now c.args.number c.args.changes.now c.in_ok-history.history.now c.in_ok-history.ensures.row c.in_ok-history.ensures.history
    c.in_ok-name.name c.in_ok-name.ensures room g.met.K.Kind.lawful c.args.run.now c.document.new.run c.apply_changes.new.run _ w
    (c.in_ok-document.ensures c.args.shop.now.counter c.in_ok-history.ensures.form w) c.document.auto.run c.in_ok-apply_changes.ensures
