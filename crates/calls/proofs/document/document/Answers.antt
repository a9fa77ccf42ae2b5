use Rattle.std.proofs.Common.{rules}
use Rattle.shop.specs.declared.refusal.Refusal.TheVariants.{Torn}
use Rattle.calls.proofs.Called.{mapped}
use Rattle.calls.proofs.Documents.{replayed_document}
use Rattle.calls.proofs.document.document.Goals as goal

pub returns : goal.returns
returns g c n s w =
    replayed_document g.K.Kind.theory g.met.K.Kind.lawful c.args.history.now c.args.run.now c.replay_fresh.new.run c.replay_fresh.result c.map_err.result n c.args.number s w c.replay_fresh.ensures
    (mapped (λ x. Torn c.args.number) c.replay_fresh.result c.map_err.result _ (λ e x p. search rules) c.map_err.ensures.cases)
