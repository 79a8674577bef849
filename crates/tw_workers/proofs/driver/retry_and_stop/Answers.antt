use Rattle.tw_workers.proofs.Names.{DoneView, GivesUp, Option, Some, Stopped, Turned, [], refl, subst, sym, ◌∷◌}
use Rattle.tw_workers.proofs.driver.retry_and_stop.Goals as goal

pub returns-in_default : goal.returns-in_default
returns-in_default g c = (Stopped ∷ [], (_, c.stop.ensures, refl), subst (λ (o : Option DoneView). GivesUp o (Stopped ∷ [])) (sym c.in_default.is) refl)

pub returns : goal.returns
returns g c = let steps = Turned (Some c.in-Some.done) c.turn.result ∷ Stopped ∷ [] in (steps, (_, c.turn.ensures.does, (_, c.stop-2.ensures, refl)), subst (λ (o : Option DoneView). GivesUp o steps) (sym c.in-Some.is) (c.turn.result, refl))
