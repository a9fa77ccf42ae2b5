use Rattle.std.proofs.Common.{sym, map, reverse, set, ap, ◌∙◌}
use Rattle.std.proofs.lemmas.List.{take_all, drop_all, append-nil}
use Rattle.std.proofs.lemmas.List.Edits.{map_over_more}
use Rattle.histories.proofs.Leading.{inverted}
use Rattle.histories.proofs.flat.invert_into.Goals as goal

pub loop-patch-preserved : goal.loop-patch-preserved
loop-patch-preserved g c =
    ap (set c.loop-patch.row c.loop-patch.patch-index) (c.invert.ensures ∙ ap g.K.Kind.theory.invert (sym c.patch-item.is))
    ∙ map_over_more g.K.Kind.theory.invert c.reverse.new.self c.loop-patch.row c.loop-patch.patch-index c.patch-item.result c.loop-patch-test.true c.loop-patch.invariant c.patch-item.is

pub returns : goal.returns
returns g c =
    let all = rw (take_all c.loop-patch.patch-index c.reverse.new.self c.loop-patch-test.false, drop_all c.loop-patch.patch-index c.reverse.new.self c.loop-patch-test.false) at c.loop-patch.invariant in
    all ∙ append-nil (map g.K.Kind.theory.invert c.reverse.new.self)
    ∙ ap (map g.K.Kind.theory.invert) (c.reverse.ensures.after ∙ ap reverse c.copy_from_slice.ensures.after) ∙ inverted g.K.Kind.theory c.args.patches.now
