use Rattle.std.proofs.Common.{rules}
use Rattle.memory.proofs.Writing.{inverted, inverted_length, inverted_at}
use Rattle.memory.proofs.write.append_inverse.Goals as goal

pub returns : goal.returns
returns g c =
    rw c.part-patch.ensures at
    (c.append_at.ensures (inverted g.K.Kind.theory c.args.name c.part-patch.result.now) (inverted_length g.K.Kind.theory c.args.name c.part-patch.result.now)
    (λ i x h k. search (rules, inverted_at g.K.Kind.theory c.args.name c.part-patch.result.now i)))
