use Rattle.std.proofs.Common.{ap, ◌∙◌}
use Rattle.lines.specs.Note.{text_and_zeros}
use Rattle.lines.proofs.note.NoteLine.writable.Goals as goal

pub returns : goal.returns
returns c = c.is_text_and_zeros.ensures ∙ ap text_and_zeros c.bytes.ensures
