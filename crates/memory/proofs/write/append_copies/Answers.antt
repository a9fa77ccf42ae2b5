use Rattle.std.proofs.Common.{length, refl, arith}
use Rattle.memory.proofs.Appending.{all_appended}
use Rattle.memory.proofs.write.append_copies.Goals as goal

pub returns-clause-changes : goal.returns-clause-changes
returns-clause-changes g c =
    all_appended c.args.repository.now.row c.args.repository.now.count (length c.args.entries.now) _ refl (let w = c.args.repository.now.within in omega arith)
    c.deref_mut.result.now c.copy_from_slice.new.self _ c.deref_mut.ensures.value
    refl (λ _. c.copy_from_slice.ensures.after)
