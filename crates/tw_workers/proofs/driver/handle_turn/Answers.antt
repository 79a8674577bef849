use Rattle.tw_workers.proofs.Names.{Stopped, [], refl, rules, ◌∷◌}
use Rattle.tw_workers.proofs.driver.handle_turn.Goals as goal

pub returns-clause-steps : goal.returns-clause-steps
returns-clause-steps g c = (Stopped ∷ [], (_, c.stop.ensures, refl), search rules)
