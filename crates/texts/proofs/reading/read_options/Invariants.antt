use Rattle.std.proofs.Common.{◌≡◌, true, vec_items}
use Rattle.kinds.specs.Sequences.{all_written}
use Rattle.product.specs.Controller.{controller}
use Rattle.texts.proofs.reading.read_options.Given as goal

abbrev pub invariant-loop-i : goal.invariant-loop-i
invariant-loop-i l = all_written controller (vec_items l.options.row) ≡ true
