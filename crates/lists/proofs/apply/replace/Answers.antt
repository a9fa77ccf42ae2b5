use Rattle.std.proofs.Common.{◌≡◌, ◌*◌, length, arith}
use Rattle.lists.specs.Hunk.{count}
use Rattle.lists.specs.Proofs.Steps.{step_from_takes}
use Rattle.lists.proofs.Replacing.{top_fits, lines_fit, replaced_words}
use Rattle.lists.proofs.apply.replace.Goals as goal

pub make_room-requires : goal.make_room-requires
make_room-requires g c =
    let s = c.args.h.start in
    let top = c.max.result in
    let w = c.words-width.result in
    let lines = c.args.lines.now in
    let fits = top_fits c.args.len c.args.next top w g.L.Line.form.width (length lines) c.max.ensures c.requires.within.1.1.0 c.requires.within.1.1.1 c.words-width.ensures c.requires.room.1 in (
      lines_fit s c.count.result top w lines (omega (arith, c.count.ensures, c.max.ensures, c.requires.within)) fits,
      lines_fit s c.count-2.result top w lines (omega (arith, c.count-2.ensures, c.max.ensures, c.requires.within)) fits,
    )

pub write_lines-requires : goal.write_lines-requires
write_lines-requires g c =
    let s = c.args.h.start in
    let top = c.max.result in
    let w = c.words-width.result in
    let lines = c.args.lines.now in
    let v : w ≡ g.L.Line.form.width = omega (arith, c.words-width.ensures, c.requires.room) in
    let n : c.count-2.result * w ≡ count c.args.h.new * g.L.Line.form.width = λ i. c.count-2.ensures i * v i in
    let fits = top_fits c.args.len c.args.next top w g.L.Line.form.width (length lines) c.max.ensures c.requires.within.1.1.0 c.requires.within.1.1.1 c.words-width.ensures c.requires.room.1 in
    let room = lines_fit s c.count-2.result top w lines (omega (arith, c.count-2.ensures, c.max.ensures, c.requires.within)) fits in
    (omega (arith, c.requires.room), omega (arith, room, n, c.make_room.auto.run))

pub returns : goal.returns
returns g c d e l t q =
    replaced_words g.L.Line.form g.met.L.Line.filled c.args.h d e (step_from_takes g.L.Line.form g.met.L.Line.tells_same c.args.h d e t)
    c.args.len c.args.next c.max.result c.count.result c.count-2.result c.words-width.result
    l c.count.ensures c.count-2.ensures (omega (arith, c.words-width.ensures, c.requires.room))
    (omega (arith, c.count.ensures, c.count-2.ensures, c.requires.within)) c.max.ensures c.requires.within.1.1.0 c.requires.within.1.1.1
    c.args.lines.now c.make_room.new.run c.write_lines.new.run q c.make_room.ensures c.write_lines.ensures
