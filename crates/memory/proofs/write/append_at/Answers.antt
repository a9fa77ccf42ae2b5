use Rattle.std.proofs.Common.{refl}
use Rattle.memory.proofs.OneRepository.{appended_in_shop}
use Rattle.memory.proofs.write.append_at.Goals as goal

pub returns : goal.returns
returns g c xs l a =
    appended_in_shop c.args.shop.now c.args.number c.if-number-gt3.false c.index-shop-number.result c.append_entries.new.repository
    xs (c.append_entries.ensures.changes xs l a) c.append_entries.ensures.room _ refl refl
