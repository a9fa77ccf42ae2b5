use Rattle.std.proofs.Common.{ap, ◌∙◌, eqb, rules, tests}
use Rattle.std.specs.List.{prefix_len}
use Rattle.std.proofs.lemmas.Iterator.{YieldsList-from_slice}
use Rattle.std.proofs.lemmas.Iterator.Consumers.{count_from_yields_List}
use Rattle.std.proofs.lemmas.Iterator.Search.{YieldsList-from_take_while}
use Rattle.std.proofs.lemmas.List.Folds.{length-prefix_len}
use Rattle.histories.specs.declared.named.Named.{Named as Under}
use Rattle.histories.proofs.Leading.{leads}
use Rattle.histories.proofs.flat.leading.Goals as goal

pub returns-clause-counted : goal.returns-clause-counted
returns-clause-counted g c cs behind e o =
    let named = λ (w : Under g.row.K-Patch.Denot). eqb w.name c.args.name in
    count_from_yields_List c.take_while.result _ c.count.ensures.ran (YieldsList-from_take_while _ named (YieldsList-from_slice c.args.row.now (cc))
    c.take_while.ensures.closure c.take_while.ensures.done (λ x b q k. search (rules, tests)))
    ∙ length-prefix_len named c.args.row.now ∙ ap (prefix_len named) e ∙ leads c.args.name cs behind o
