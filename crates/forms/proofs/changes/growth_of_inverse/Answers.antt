use Rattle.std.proofs.Common.{sym, ap, ◌∙◌, rules, tests}
use Rattle.std.proofs.lemmas.Iterator.{YieldsList-from_slice}
use Rattle.std.proofs.lemmas.Iterator.Consumers.{fold_from_yields_List}
use Rattle.kinds.specs.Bounded.{saturated}
use Rattle.forms.proofs.Growing.{told, told_all, inverses_sum}
use Rattle.forms.proofs.changes.growth_of_inverse.Goals as goal

pub returns : goal.returns
returns g c =
    fold_from_yields_List _ (told (λ p. g.K.Kind.theory.growth (g.K.Kind.theory.invert p))) 0 c.fold.result c.fold.ensures.ran (YieldsList-from_slice c.args.changes.now (cc)) (λ a x b q k. search (rules, tests))
    ∙ told_all (λ p. g.K.Kind.theory.growth (g.K.Kind.theory.invert p)) c.args.changes.now ∙ ap saturated (sym (inverses_sum g.K.Kind.theory c.args.changes.now))
