-- A patch of a history: a name, and a sequence of changes.
use Rattle.std.specs.Prelude.{ℕ, Bool, ◌&&◌, List, length, Some, nat_le, nat_lt}
use Rattle.kinds.specs.declared.steps.AtStep.{AtStep}
use Rattle.kinds.specs.Theory.{Theory}
use Rattle.kinds.specs.Parts.{both}
use Rattle.kinds.specs.Sequences.{sequences}
use Rattle.kinds.specs.Restricted.{restricted}
use Rattle.histories.specs.declared.named.Named.{Named}

-- what a patch does, under a name
abbrev pub under : {X : Type 0} → ℕ → X → Named X
under n c = record { name = n; changes = c }

-- The patches of T under names: where two commute each keeps its name, and so does one that is inverted.
abbrev pub named : {X F : Type 0} → Theory X F → Theory (Named X) F
named T = record {
  Doc = T.Doc;
  fresh = T.fresh;
  blank = T.blank;
  size = T.size;
  apply = λ p. T.apply p.changes;
  invert = λ p. under p.name (T.invert p.changes);
  commute = λ p q. both (under q.name) (under p.name) (T.commute p.changes q.changes);
  growth = λ p. T.growth p.changes;
  written = λ p. T.written p.changes;
  far = λ p q. T.far p.changes q.changes;
  full = λ p. T.full p.changes;
  fits = T.fits;
  width = T.width;
  encode = T.encode;
}

-- One to eight changes make a patch.
abbrev pub one_to_eight : {P : Type 0} → List P → Bool
one_to_eight c = nat_lt 0 (length c) && nat_le (length c) 8

-- The patches of histories whose changes are patches of T.
abbrev pub patches : {P F : Type 0} → Theory P F → Theory (Named (List P)) (AtStep F)
patches T = named (restricted (sequences T) (λ c. c) Some one_to_eight)
