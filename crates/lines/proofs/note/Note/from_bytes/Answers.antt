use Rattle.std.proofs.Common.{◌≡◌, true, leb, ◌++◌, length, Some, ◌∙◌}
use Rattle.std.proofs.lemmas.Bool.{le-leb}
use Rattle.lines.proofs.Texts.{reads_padded}
use Rattle.lines.proofs.note.Note.from_bytes.Goals as goal

pub returns : goal.returns
returns c =
    let text = c.args.text.now in
    let l : leb (length text) 16 ≡ true = le-leb (length text) 16 c.if-text-gt-BYTES.false in
    record {
      value = rw l (λ i. Some (record { first = c.word.ensures.value i; second = c.word-2.ensures.value i; third = c.word-3.ensures.value i; fourth = c.word-4.ensures.value i }));
      same = (λ i. c.word.ensures.same i ++ c.word-2.ensures.same i ++ c.word-3.ensures.same i ++ c.word-4.ensures.same i) ∙ reads_padded text c.if-text-gt-BYTES.false;
    }
