use Rattle.std.proofs.Common.{not, ◌∙◌, rules, tests}
use Rattle.std.proofs.lemmas.Iterator.{YieldsList-from_slice}
use Rattle.std.proofs.lemmas.Iterator.Adapters.{position_from-zero}
use Rattle.std.proofs.lemmas.Iterator.Search.{position_from_yields_List}
use Rattle.forms.proofs.Writing.{first_found}
use Rattle.forms.proofs.changes.first_unwritable.Goals as goal

pub returns : goal.returns
returns g c =
    let unwritable = λ (p : g.row.K-Patch.Denot). not (g.K.Kind.theory.written p) in
    position_from_yields_List unwritable _ _ c.position.result c.position.ensures.ran (YieldsList-from_slice c.args.changes.now (cc)) (λ x b q k. search (rules, tests))
    ∙ position_from-zero unwritable c.args.changes.now ∙ first_found g.K.Kind.theory 0 c.args.changes.now
