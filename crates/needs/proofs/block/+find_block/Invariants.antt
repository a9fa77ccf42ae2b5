use Rattle.std.proofs.Common.{length}
use Rattle.needs.proofs.block.+find_block.Given as goal

abbrev pub decreases-find_block : goal.decreases-find_block
decreases-find_block g l = length l.row.now
