use Rattle.std.proofs.Common.{◌+◌, ◌-◌, ltb, Some, None, sym, ◌∙◌, arith}
use Rattle.std.proofs.lemmas.Bool.{lt-ltb, le-ltb, cond-true, cond-false}
use Rattle.kinds.specs.Laws.{most}
use Rattle.lists.specs.Hunk.{count}
use Rattle.lists.proofs.Comparing.{told_by_words}
use Rattle.lists.proofs.apply.next_len.Goals as goal

pub returns-in-Some : goal.returns-in-Some
returns-in-Some g c = record {
  within = tt;
  told = λ d l e. told_by_words g.L.Line.form g.met.L.Line.filled g.met.L.Line.read_back c.args.h d c.args.lines.now c.args.len (c.args.len - c.count.result + count c.args.h.new) c.count.result c.words-width.result
      (Some c.in-Some.at) l e c.count.ensures c.words-width.ensures c.requires.0 c.if-end-len.false (omega (arith, c.if-end-len.false)) c.in-Some.ensures;
}

pub returns-then-next-gt-MOST_LINES : goal.returns-then-next-gt-MOST_LINES
returns-then-next-gt-MOST_LINES g c =
    let next = c.args.len - c.count-2.result + c.count-3.result in
    record {
      within = tt;
      told = λ d l e.
          sym (cond-true (ltb most next) _ _ (lt-ltb most next c.if-next-gt-MOST_LINES.true))
          ∙ told_by_words g.L.Line.form g.met.L.Line.filled g.met.L.Line.read_back c.args.h d c.args.lines.now c.args.len next c.count.result c.words-width.result
          None l e c.count.ensures c.words-width.ensures c.requires.0 c.if-end-len.false (omega (arith, c.count.ensures, c.count-2.ensures, c.count-3.ensures, c.if-end-len.false)) c.in_default.ensures;
    }

pub returns : goal.returns
returns g c =
    let next = c.args.len - c.count-2.result + c.count-3.result in
    record {
      within = (omega (arith, c.count.ensures, c.if-end-len.false), omega (arith, c.count.ensures, c.count-2.ensures, c.count-3.ensures, c.if-end-len.false), c.if-next-gt-MOST_LINES.false);
      told = λ d l e.
          sym (cond-false (ltb most next) _ _ (le-ltb most next c.if-next-gt-MOST_LINES.false))
          ∙ told_by_words g.L.Line.form g.met.L.Line.filled g.met.L.Line.read_back c.args.h d c.args.lines.now c.args.len next c.count.result c.words-width.result
          None l e c.count.ensures c.words-width.ensures c.requires.0 c.if-end-len.false (omega (arith, c.count.ensures, c.count-2.ensures, c.count-3.ensures, c.if-end-len.false)) c.in_default.ensures;
    }
