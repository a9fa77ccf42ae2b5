use Rattle.std.proofs.Common.{rules, tests, ◌∙◌}
use Rattle.std.proofs.lemmas.Iterator.{YieldsList-from_slice, YieldsList-from_take}
use Rattle.std.proofs.lemmas.Iterator.Consumers.{YieldsList-at, fold_from_yields_List}
use Rattle.std.proofs.Common.{take}
use Rattle.options.proofs.Starts.{saturated, fold_saturated}
use Rattle.options.proofs.parts.changes_before.Goals as goal

pub returns : goal.returns
returns c = λ h. fold_from_yields_List _ saturated 0 c.fold.result c.fold.ensures.ran
    (YieldsList-from_take c.args.count (YieldsList-at c.take.ensures.source (YieldsList-from_slice c.args.parts.now cc)) cc)
    (λ a x b q k. search (rules, tests))
    ∙ fold_saturated (take c.args.count c.args.parts.now) 0 h
