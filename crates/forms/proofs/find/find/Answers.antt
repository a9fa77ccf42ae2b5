use Rattle.std.proofs.Common.{◌≡◌, None, ◌∙◌, rules, tests}
use Rattle.std.specs.List.{position_from}
use Rattle.std.proofs.lemmas.Iterator.{YieldsList-from_slice}
use Rattle.std.proofs.lemmas.Iterator.Adapters.{position_from-zero}
use Rattle.std.proofs.lemmas.Iterator.Search.{position_from_yields_List}
use Rattle.forms.proofs.Finding.{named, none_found, one_found}
use Rattle.forms.proofs.find.find.Goals as goal

pub returns-in_err-start-clause-found : goal.returns-in_err-start-clause-found
returns-in_err-start-clause-found g c =
    let is : c.position.result ≡ position_from (named c.args.name) 0 c.args.row.now =
    position_from_yields_List (named c.args.name) _ _ c.position.result c.position.ensures.ran (YieldsList-from_slice c.args.row.now (cc)) (λ x b q k. search (rules, tests))
    ∙ position_from-zero (named c.args.name) c.args.row.now in
    let no : c.from_residual.result ≡ None = search rules in
    no ∙ none_found c.args.name c.args.row.now c.position.result is (search rules)

pub returns-clause-found : goal.returns-clause-found
returns-clause-found g c =
    let is : c.position.result ≡ position_from (named c.args.name) 0 c.args.row.now =
    position_from_yields_List (named c.args.name) _ _ c.position.result c.position.ensures.ran (YieldsList-from_slice c.args.row.now (cc)) (λ x b q k. search (rules, tests))
    ∙ position_from-zero (named c.args.name) c.args.row.now in
    one_found c.args.name c.args.row.now c.position.result is c.in_ok-start.start c.leading-count.result c.in_ok-start.was c.leading-count.ensures.counted (search rules)
