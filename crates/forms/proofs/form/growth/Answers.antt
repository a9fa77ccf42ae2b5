use Rattle.std.proofs.Common.{ap, ◌∙◌}
use Rattle.kinds.specs.Bounded.{saturated}
use Rattle.forms.proofs.Growing.{growths_grouped}
use Rattle.forms.proofs.form.growth.Goals as goal

pub returns : goal.returns
returns g c = c.growth_of.ensures ∙ ap saturated (growths_grouped g.K.Kind.theory c.args.row.now)
