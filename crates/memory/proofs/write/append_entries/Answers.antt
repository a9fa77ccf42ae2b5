use Rattle.std.proofs.Common.{sym, refl, ◌∙◌, arith}
use Rattle.memory.proofs.Appending.{all_appended}
use Rattle.memory.proofs.write.append_entries.Goals as goal

pub returns-clause-changes : goal.returns-clause-changes
returns-clause-changes g c xs l a =
    all_appended c.args.repository.now.row c.args.repository.now.count c.args.count _ refl (let w = c.args.repository.now.within in omega arith)
    c.deref_mut.result.now c.write.new.row xs c.deref_mut.ensures.value l (λ e. c.write.ensures xs (l ∙ sym e) a)
