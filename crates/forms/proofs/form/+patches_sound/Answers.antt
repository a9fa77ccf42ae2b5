use Rattle.std.proofs.Common.{◌≡◌, ◌&&◌, ltb, leb, refl, ◌∙◌, sym, true≢false, rules}
use Rattle.forms.proofs.FirstPatch.{first_of}
use Rattle.forms.proofs.Forming.{misnumbered, unwritten, twice, then_rest}
use Rattle.forms.proofs.form.+patches_sound.Goals as goal
use Rattle.forms.proofs.form.+patches_sound.Goals.{then-contains, else-contains, then-make_patch, else-make_patch}

pub returns-then-not-holds : goal.returns-then-not-holds
returns-then-not-holds g t c =
    let first = first_of c.args.row.now c.in-Some.first.now c.leading.result c.in-Some.ensures.value c.leading.ensures.counted in
    let ranged : c.contains.result ≡ ltb 0 c.in-Some.first.now.name && leb c.in-Some.first.now.name c.args.counter = search rules in
    elim c.if-make_patch.branch [
      | then-make_patch w ↦ elim c.if-contains.branch [
        | then-contains u ↦
            then_rest g.K.Kind.theory c.args.counter c.args.row.now c.in-Some.first.now c.leading.result first _ _ c.split_at.ensures.front c.split_at.ensures.back
            _ _ _ ranged u.make_patch.ensures w.holds.ensures u.if-contains.true (sym u.value-is ∙ w.if-make_patch.true) (sym w.value-is ∙ c.if-not-holds.true)
            c.patches_sound.result c.patches_sound.ensures
        | else-contains u ↦ absurd (true≢false (sym w.if-make_patch.true ∙ u.value-is ∙ u.if-contains.false))
      ]
      | else-make_patch w ↦ absurd (true≢false (sym c.if-not-holds.true ∙ w.value-is ∙ w.if-make_patch.false))
    ]

pub returns-else-not-holds : goal.returns-else-not-holds
returns-else-not-holds g t c =
    let first = first_of c.args.row.now c.in-Some.first.now c.leading.result c.in-Some.ensures.value c.leading.ensures.counted in
    let ranged : c.contains.result ≡ ltb 0 c.in-Some.first.now.name && leb c.in-Some.first.now.name c.args.counter = search rules in
    c.if-not-holds.false ∙ elim c.if-make_patch.branch [
      | then-make_patch w ↦
          twice g.K.Kind.theory c.args.counter c.args.row.now c.in-Some.first.now c.leading.result first _ _ c.split_at.ensures.front c.split_at.ensures.back
          _ _ _ ranged refl w.holds.ensures (sym w.value-is ∙ c.if-not-holds.false)
      | else-make_patch w ↦ elim c.if-contains.branch [
        | then-contains u ↦
            unwritten g.K.Kind.theory c.args.counter c.args.row.now c.in-Some.first.now c.leading.result first _ _ c.split_at.ensures.front c.split_at.ensures.back
            _ _ _ ranged u.make_patch.ensures refl (sym u.value-is ∙ w.if-make_patch.false)
        | else-contains u ↦
            misnumbered g.K.Kind.theory c.args.counter c.args.row.now c.in-Some.first.now c.leading.result first _ _ c.split_at.ensures.front c.split_at.ensures.back
            _ _ _ ranged refl refl u.if-contains.false
      ]
    ]
