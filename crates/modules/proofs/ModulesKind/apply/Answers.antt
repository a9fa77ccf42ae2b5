use Rattle.std.proofs.Common.{arith, rules}
use Rattle.kinds.proofs.Parts.{failing_from_map_err}
use Rattle.modules.specs.declared.ModuleFault.TheVariants.{Inside}
use Rattle.modules.proofs.Lent.{module_lent}
use Rattle.modules.proofs.ModulesKind.apply.Goals as goal

pub returns : goal.returns
returns g c =
    module_lent g.K.Kind.theory g.met.K.Kind.lawful c.args.p c.args.run.now c.words.result c.if-not-roomy.ensures c.words.ensures c.if-p-ge-COUNT.false c.apply.result c.apply.new.run
    c.words-width.result _ _ c.words-width.ensures (omega arith)
    (failing_from_map_err (Inside c.args.p.«module») c.apply.result c.map_err.result c.map_err.ensures.cases (λ e x h. search rules)) c.apply.auto.run c.apply.ensures
