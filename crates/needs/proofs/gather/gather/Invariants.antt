use Rattle.histories.specs.Named.{named}
use Rattle.needs.proofs.GatheringRow.{Met}
use Rattle.needs.proofs.gather.gather.Given as goal

abbrev pub invariant-loop-i : goal.invariant-loop-i
invariant-loop-i g l = Met (named g.K.Kind.theory) (λ c. c.name) l.needs l.initial.row l.row l.needed l.i
