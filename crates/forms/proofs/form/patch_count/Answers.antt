use Rattle.std.proofs.Common.{length, ap, ◌∙◌, rules, tests}
use Rattle.std.proofs.lemmas.Fn.{always_returns_same}
use Rattle.forms.specs.Form.{grouped}
use Rattle.forms.proofs.Parts.{parts}
use Rattle.forms.proofs.form.patch_count.Goals as goal

pub returns : goal.returns
returns g c =
    let (xs, (u, (t, y, n)), is) = c.count.ensures.ran in
    is ∙ parts _ xs c.chunk_by.result t u y n (always_returns_same _ _ _ (λ a r q k. search (rules, tests))) ∙ ap (λ z. length (grouped z)) c.chunk_by.ensures.rest
