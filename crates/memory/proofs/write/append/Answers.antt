use Rattle.std.proofs.Common.{map, rules}
use Rattle.std.proofs.lemmas.List.{length-map, get_or-map}
use Rattle.histories.specs.Named.{under}
use Rattle.memory.proofs.write.append.Goals as goal

pub returns : goal.returns
returns g c =
    c.append_at.ensures (map (under c.args.name) c.args.changes.now) (length-map c.args.changes.now (under c.args.name))
    (λ i x h k. search (rules, length-map c.args.changes.now (under c.args.name), get_or-map (under c.args.name) c.args.changes.now i))
