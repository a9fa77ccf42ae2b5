use Rattle.std.proofs.Common.{◌≡◌, Bool, true, false, cond, List, [], ◌∷◌, ◌++◌, is_ok, vec_items, refl, ap, ◌∙◌}
use Rattle.std.proofs.lemmas.Bool.{and_from}
use Rattle.kinds.specs.Sequences.{all_written}
use Rattle.kinds.proofs.Sequences.{written_append}
use Rattle.product.specs.Controller.{Change, controller}
use Rattle.texts.proofs.reading.read_line.Goals as goal

-- one change more that can be written
grown : (old new : List Change) (b : Bool) (c : Change) → new ≡ cond b (old ++ c ∷ []) old → controller.written c ≡ true → all_written controller old ≡ true
    → all_written controller new ≡ true
grown old new true c e w h = ap (all_written controller) e ∙ written_append controller old (c ∷ []) h (and_from _ _ w refl)
grown old new false c e w h = ap (all_written controller) e ∙ h

pub returns-in_ok-change-in-Some : goal.returns-in_ok-change-in-Some
returns-in_ok-change-in-Some c = grown (vec_items c.args.options.now.row) (vec_items c.add.new.options.row) (is_ok c.add.result) c.in_ok-change-in-Some.change c.add.ensures c.in_ok-change-in-Some.ensures
