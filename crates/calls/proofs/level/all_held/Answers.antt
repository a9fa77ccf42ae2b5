use Rattle.std.proofs.Common.{rules, ◌∙◌}
use borrow.Author.Tests.{tests}
use Rattle.std.proofs.lemmas.Iterator.{YieldsList-from_slice}
use Rattle.std.proofs.lemmas.Iterator.Search.{all_from_yields_List}
use Rattle.histories.specs.History.{holds}
use Rattle.forms.specs.Form.{grouped}
use Rattle.calls.proofs.SameNames.{held_row}
use Rattle.calls.proofs.level.all_held.Goals as goal

pub returns : goal.returns
returns g c =
    all_from_yields_List (λ p. holds (λ w. w.name) (grouped c.args.other.now) p.name) _ _ c.all.result c.all.ensures.ran (YieldsList-from_slice c.args.one.now cc) (λ x b q k. search (rules, tests))
    ∙ held_row c.args.one.now (grouped c.args.other.now)
