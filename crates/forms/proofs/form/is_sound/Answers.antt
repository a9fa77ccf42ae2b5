use Rattle.std.proofs.Common.{length, ◌∙◌, sym, true≢false, arith}
use Rattle.std.proofs.lemmas.Bool.{leb-true, leb-false, lt-leb}
use Rattle.forms.proofs.Forming.{too_many_changes, too_many_patches, too_much_growth, all_sound}
use Rattle.forms.proofs.form.is_sound.Goals as goal
use Rattle.forms.proofs.form.is_sound.Goals.{then-row-le-MOST_CHANGES, else-row-le-MOST_CHANGES, then-growth-le-MOST_GROWTH, else-growth-le-MOST_GROWTH}

pub returns-then-patch_count-le-MOST_PATCHES : goal.returns-then-patch_count-le-MOST_PATCHES
returns-then-patch_count-le-MOST_PATCHES g c = elim c.if-growth-le-MOST_GROWTH.branch [
  | then-growth-le-MOST_GROWTH w ↦ elim c.if-row-le-MOST_CHANGES.branch [
    | then-row-le-MOST_CHANGES u ↦
        let grown = leb-true u.growth.result 120 (sym u.value-is ∙ w.if-growth-le-MOST_GROWTH.true) in
        let many = leb-true w.patch_count.result 40 (sym w.value-is ∙ c.if-patch_count-le-MOST_PATCHES.true) in
        all_sound g.K.Kind.theory c.args.counter c.args.row.now u.growth.result c.patches_sound.result
        u.if-row-le-MOST_CHANGES.true u.growth.ensures grown (omega (arith, w.patch_count.ensures)) c.patches_sound.ensures
    | else-row-le-MOST_CHANGES u ↦
        absurd (true≢false (sym w.if-growth-le-MOST_GROWTH.true ∙ u.value-is ∙ lt-leb (length c.args.row.now) 160 u.if-row-le-MOST_CHANGES.false))
  ]
  | else-growth-le-MOST_GROWTH w ↦ absurd (true≢false (sym c.if-patch_count-le-MOST_PATCHES.true ∙ w.value-is ∙ w.if-growth-le-MOST_GROWTH.false))
]

pub returns-else-patch_count-le-MOST_PATCHES : goal.returns-else-patch_count-le-MOST_PATCHES
returns-else-patch_count-le-MOST_PATCHES g c = c.if-patch_count-le-MOST_PATCHES.false ∙ elim c.if-growth-le-MOST_GROWTH.branch [
  | then-growth-le-MOST_GROWTH w ↦
      let many = leb-false w.patch_count.result 40 (sym w.value-is ∙ c.if-patch_count-le-MOST_PATCHES.false) in
      too_many_patches g.K.Kind.theory c.args.counter c.args.row.now (omega (arith, w.patch_count.ensures))
  | else-growth-le-MOST_GROWTH w ↦ elim c.if-row-le-MOST_CHANGES.branch [
    | then-row-le-MOST_CHANGES u ↦
        let grown = leb-false u.growth.result 120 (sym u.value-is ∙ w.if-growth-le-MOST_GROWTH.false) in
        too_much_growth g.K.Kind.theory c.args.counter c.args.row.now u.growth.result u.growth.ensures grown
    | else-row-le-MOST_CHANGES u ↦ too_many_changes g.K.Kind.theory c.args.counter c.args.row.now u.if-row-le-MOST_CHANGES.false
  ]
]
