use Rattle.tw_host.proofs.Holding.{once}
use Rattle.tw_host.proofs.host.Host.turn.Goals as goal

pub returns-clause-events : goal.returns-clause-events
returns-clause-events g c = once _ _ _ _ _ _ c.run_batch.ensures.events
