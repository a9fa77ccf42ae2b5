use Rattle.std.proofs.Common.{refl}
use Rattle.memory.proofs.OneRepository.{appended_in_shop}
use Rattle.memory.proofs.write.append_row.Goals as goal

pub returns : goal.returns
returns g c =
    appended_in_shop c.args.shop.now c.args.number c.if-number-gt3.false c.index-shop-number.result c.append_copies.new.repository
    _ (rw c.part-entries.ensures at c.append_copies.ensures.changes) c.append_copies.ensures.room _ refl refl
