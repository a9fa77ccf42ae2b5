use Rattle.std.proofs.Common.{◌≡◌, true, length, rules}
use Rattle.kinds.specs.Bounded.{roomy}
use Rattle.sides.specs.Sides.{sides}
use Rattle.sides.proofs.SideWords.{left_applied, right_applied, left_others, right_others}
use Rattle.sides.proofs.SidesKind.apply.Goals as goal

pub returns-in-Left : goal.returns-in-Left
returns-in-Left g c =
    let room : roomy (sides g.L.Kind.theory g.R.Kind.theory) (length c.args.run.now) ≡ true = search rules in
    record {
      applied = left_applied g.L.Kind.theory g.R.Kind.theory g.met.L.Kind.lawful g.met.R.Kind.lawful c.args.run.now room
          c.args.p c.in-Left.a c.apply.result c.at_left.result c.apply.new.run c.words-middle.result
          c.in-Left.is c.words-middle.ensures c.apply.ensures c.at_left.ensures;
      others = left_others g.L.Kind.theory g.R.Kind.theory g.met.L.Kind.lawful g.met.R.Kind.lawful c.args.run.now room
          c.args.p c.in-Left.a c.apply.new.run c.words-middle.result c.in-Left.is c.words-middle.ensures c.apply.auto.run;
    }

pub returns-in-Right : goal.returns-in-Right
returns-in-Right g c =
    let room : roomy (sides g.L.Kind.theory g.R.Kind.theory) (length c.args.run.now) ≡ true = search rules in
    record {
      applied = right_applied g.L.Kind.theory g.R.Kind.theory g.met.L.Kind.lawful g.met.R.Kind.lawful c.args.run.now room
          c.args.p c.in-Right.b c.apply-in-Right.result c.at_right.result c.apply-in-Right.new.run c.words-middle.result
          c.in-Right.is c.words-middle.ensures c.apply-in-Right.ensures c.at_right.ensures;
      others = right_others g.L.Kind.theory g.R.Kind.theory g.met.L.Kind.lawful g.met.R.Kind.lawful c.args.run.now room
          c.args.p c.in-Right.b c.apply-in-Right.new.run c.words-middle.result c.in-Right.is c.words-middle.ensures c.apply-in-Right.auto.run;
    }
