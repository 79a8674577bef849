use Rattle.tw_workers.proofs.Names.{AtSeat, seen_by}
use Rattle.tw_workers.proofs.Driving.{kept_actor, seen}
use Rattle.tw_workers.proofs.driver.drive.Goals as goal

pub returns-clause-actor : goal.returns-clause-actor
returns-clause-actor g c = let d = c.drive_at-memory.ensures in kept_actor g.N.Named.run g.G.Gate.unwatched g.G.Gate.stoppable _ _ d.0 (seen (λ s. seen_by s.actor s.events.items) (AtSeat g.N.Named.run g.G.Gate.unwatched g.G.Gate.stoppable) _ _ d.0 d.1)

pub returns-clause-driven : goal.returns-clause-driven
returns-clause-driven g c = let d = c.drive_at-memory.ensures in (d.0, seen (λ s. seen_by s.actor s.events.items) (AtSeat g.N.Named.run g.G.Gate.unwatched g.G.Gate.stoppable) _ _ d.0 d.1, d.2)
