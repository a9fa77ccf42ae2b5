use Rattle.std.proofs.Common.{rules}
use Rattle.kinds.proofs.Parts.{fault_mapped}
use Rattle.kinds.proofs.steps.fn.at_step.map_err.Goals as goal

pub returns : goal.returns
returns g c = fault_mapped c.args.failure c.map.result (λ f x h. search rules) c.map.ensures
