use Rattle.std.proofs.Common.{◌≡◌, drop}
use Rattle.lines.specs.Note.{text_and_zeros}
use Rattle.lines.proofs.Texts.{rest_fits}
use Rattle.lines.proofs.note.is_text_and_zeros.Given as goal

-- what is left decides
abbrev pub invariant-loop-b : goal.invariant-loop-b
invariant-loop-b l = rest_fits l.ended (drop l.b-index l.bytes) ≡ text_and_zeros l.bytes
