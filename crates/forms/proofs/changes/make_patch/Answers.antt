use Rattle.std.proofs.Common.{◌≡◌, true, ◌∙◌, rules, tests}
use Rattle.std.proofs.lemmas.Iterator.{YieldsList-from_slice}
use Rattle.std.proofs.lemmas.Iterator.Search.{all_from_yields_List}
use Rattle.histories.specs.Named.{one_to_eight}
use Rattle.forms.proofs.Writing.{all_are}
use Rattle.forms.proofs.changes.make_patch.Goals as goal

pub returns-then-contains : goal.returns-then-contains
returns-then-contains g c =
    let few : one_to_eight c.args.changes.now ≡ true = search rules in
    let all = all_from_yields_List g.K.Kind.theory.written _ _ c.all.result c.all.ensures.ran (YieldsList-from_slice c.args.changes.now (cc)) (λ x b q k. search (rules, tests)) in
    rw few (all ∙ all_are g.K.Kind.theory c.args.changes.now)
