use Rattle.std.proofs.Common.{length}
use Rattle.forms.proofs.form.+patches_sound.Given as goal

abbrev pub decreases-patches_sound : goal.decreases-patches_sound
decreases-patches_sound g l = length l.row.now
