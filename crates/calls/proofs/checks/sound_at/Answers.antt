use Rattle.calls.proofs.Called.{exit_is}
use Rattle.calls.proofs.SoundRow.{is_sound, unsound}
use Rattle.calls.proofs.checks.sound_at.Goals as goal

pub returns-in_err-or_refused-clause-history : goal.returns-in_err-or_refused-clause-history
returns-in_err-or_refused-clause-history g c =
    rw (exit_is _ c.from_residual.ensures.1) (unsound g.K.Kind.theory c.args.shop.now c.args.number _ (rw (c.is_sound.ensures, c.row-row.ensures) at c.in_err-or_refused.ensures))

pub returns-clause-history : goal.returns-clause-history
returns-clause-history g c = rw c.row-row.ensures (is_sound g.K.Kind.theory c.args.shop.now c.args.number (rw (c.is_sound.ensures, c.row-row.ensures) at c.in_ok-or_refused.ensures))
