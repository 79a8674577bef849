use Rattle.tw_host.proofs.Names.{ap, events_of, sym, ◌∙◌}
use Rattle.tw_host.proofs.Comparing.{all_own, other_there}
use Rattle.tw_host.proofs.close.first_other.Goals as goal

pub returns-in-Some-differing-clause-found : goal.returns-in-Some-differing-clause-found
returns-in-Some-differing-clause-found g c =
    let seats = c.put_in_order.new.seats in
    let history = c.args.history.now.events in
    let k = c.in-Some-differing.seat in
    let is = c.in-Some-differing.ensures in
    let found = other_there (λ s. s.actor) (λ s. s.events.items) seats c.args.layout c.in_default.ensures.placed history k is.0 is.1 in
    (found.0, (λ d. found.1 d ∙ sym c.actor_at.ensures.is), (λ d e. found.2 d (e ∙ ap (λ a. events_of a history) c.actor_at.ensures.is)))

pub returns-in-None-clause-found : goal.returns-in-None-clause-found
returns-in-None-clause-found g c = (c.in_default.ensures.placed, all_own (λ s. s.actor) (λ s. s.events.items) c.put_in_order.new.seats c.args.layout c.in_default.ensures.placed c.args.history.now.events c.in-None.ensures)
