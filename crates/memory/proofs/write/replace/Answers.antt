use Rattle.std.proofs.Common.{refl}
use Rattle.memory.proofs.OneRepository.{replaced_in_shop}
use Rattle.memory.proofs.write.replace.Goals as goal

pub returns : goal.returns
returns g c =
    replaced_in_shop c.args.shop.now c.args.number c.if-number-gt3.false c.index-shop-number.result c.replace_entries.new.repository _ _ c.replace_entries.ensures.changes c.replace_entries.ensures.room _ refl refl
