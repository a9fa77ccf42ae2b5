use Rattle.std.proofs.Common.{Err}
use Rattle.calls.proofs.Called.{exit_is}
use Rattle.calls.proofs.Documents.{applied_changes}
use Rattle.calls.proofs.document.apply_changes.Goals as goal

pub returns-in_err-replay : goal.returns-in_err-replay
returns-in_err-replay g c =
    rw (exit_is _ c.from_residual.ensures.1) (applied_changes g.K.Kind.theory g.met.K.Kind.lawful c.args.changes.now c.args.run.now c.replay.new.run (Err _) c.in_err-replay.ensures)
