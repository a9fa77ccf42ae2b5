use Rattle.std.proofs.Common.{eqb, ◌∙◌, rules, tests}
use Rattle.std.proofs.lemmas.Iterator.{YieldsList-from_slice}
use Rattle.std.proofs.lemmas.Iterator.Search.{any_from_yields_List}
use Rattle.histories.specs.declared.named.Named.{Named as Under}
use Rattle.needs.proofs.GatheringRow.{any_held}
use Rattle.needs.proofs.gather.holds_name.Goals as goal

pub returns : goal.returns
returns g c =
    any_from_yields_List (λ (x : Under g.row.K-Patch.Denot). eqb x.name c.args.name) _ _ c.any.result c.any.ensures.ran (YieldsList-from_slice c.args.row.now (cc)) (λ x b q k. search (rules, tests))
    ∙ any_held (λ (x : Under g.row.K-Patch.Denot). x.name) c.args.name c.args.row.now
