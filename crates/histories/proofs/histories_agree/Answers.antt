use Rattle.histories.proofs.Agreeing.{histories_agree}
use Rattle.histories.proofs.histories_agree.Goals as goal

pub returns : goal.returns
returns g c = histories_agree g.K.Kind.theory g.met.K.Kind.lawful
