use Rattle.std.proofs.Common.{◌≡◌, ◌<◌, List, length, get_or, take, Ok, vec_items, vec_len, ap, ◌∙◌, subst, arith}
use Rattle.std.proofs.lemmas.List.{take_at}
use Rattle.rows.specs.TakeOut.{TakenOut}
use Rattle.product.specs.Controller.{Change, controller}
use Rattle.options.specs.Fitting.{start_of}
use Rattle.options.proofs.Starts.{size_at, went_off}
use Rattle.options.proofs.parts.Options.take_off.Goals as goal

pub returns-clause-row : goal.returns-clause-row
returns-clause-row c = λ h.
    let parts = vec_items c.args.self.now.parts in
    let row = vec_items c.args.self.now.row in
    let part = c.in-Some.part.now in
    let first = c.changes_before.result in
    let left = c.in_ok-left.left in
    let after = c.take_out.new.row in
    let found = c.in-Some.ensures.lookup in
    let within : c.args.at < length parts = omega (arith, found.3.0, ap length c.deref.ensures.value) in
    let start : first ≡ start_of parts c.args.at = c.changes_before.ensures (rw c.deref-2.ensures.value h) ∙ ap (λ z. start_of z c.args.at) c.deref-2.ensures.value in
    let size = size_at parts c.args.at part within (found.1 ∙ ap (λ z. get_or z c.args.at part) c.deref.ensures.value) in
    let copied : c.deref_mut.result.now ≡ row = c.deref_mut.ensures.value ∙ c.in_ok-row.ensures.items ∙ c.deref-3.ensures.value in
    let out : TakenOut controller row first part.count (Ok left) after = subst (λ (z : List Change). TakenOut controller z first part.count (Ok left) after) copied c.in_ok-left.ensures in
    let cut : vec_items c.truncate.new.self ≡ take left after =
    c.truncate.ensures.items ∙ ap (take left) (take_at after _ (vec_len c.in_ok-row.row) (c.take_out.auto.row ∙ c.deref_mut.ensures.len)) in
    rw cut (went_off parts row c.args.at first part.count after start size left out)
