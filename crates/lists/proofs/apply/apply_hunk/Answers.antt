use Rattle.std.proofs.Common.{arith}
use Rattle.std.proofs.lemmas.Bool.{false≢true}
use Rattle.lists.proofs.Applying.{succeeded}
use Rattle.lists.proofs.apply.apply_hunk.Goals as goal

pub returns : goal.returns
returns g c = record {
  applied = succeeded g.L.Line.form c.args.h c.args.run.now c.replace.new.lines c.in_ok-next.next c.list_words.result
      c.list_words.ensures c.if-not-roomy.ensures c.in_ok-next.ensures.within.2 c.in_ok-next.ensures.told c.replace.ensures;
  kept = λ h. absurd (false≢true h);
  longer = λ _ l. absurd (omega (arith, l, c.if-len-gt-MOST_LINES.false));
}
