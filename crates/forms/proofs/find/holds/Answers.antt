use Rattle.std.proofs.Common.{◌∙◌}
use Rattle.forms.proofs.Finding.{held_found}
use Rattle.forms.proofs.find.holds.Goals as goal

pub returns : goal.returns
returns g c = c.is_some.ensures ∙ held_found c.args.name c.args.row.now c.find.result c.find.ensures.found
