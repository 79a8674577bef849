use Rattle.tw_machine.proofs.Names.{AreBelow, State, err_from_is_err_and, subst, sym, the_view, ◌^◌}
use Rattle.tw_code.specs.machine.Machine.{step}
use Rattle.tw_machine.proofs.Frames.{few_at, room_below}
use Rattle.tw_machine.proofs.state.State.step.Goals as goal

pub local-requires-clause-spent : goal.local-requires-clause-spent
local-requires-clause-spent c = few_at (2 ^ 63) (the_view c.self.inside) c.in-Local.actor (subst (λ (s : State). AreBelow (2 ^ 63) s) (sym c.self.view_is) c.requires.small)

pub call-requires-clause-spent : goal.call-requires-clause-spent
call-requires-clause-spent c = few_at (2 ^ 63) (the_view c.self.inside) c.in-Call.actor (subst (λ (s : State). AreBelow (2 ^ 63) s) (sym c.self.view_is) c.requires.small)

pub call-requires-clause-room : goal.call-requires-clause-room
call-requires-clause-room c = room_below (the_view c.self.inside) c.self.inside.tables (subst (λ (s : State). AreBelow (2 ^ 63) s) (sym c.self.view_is) c.requires.small)

pub returns-in-Take-clause-steps : goal.returns-in-Take-clause-steps
unfolding step
returns-in-Take-clause-steps c = rw (c.in-Take.is, ← c.self.view_is) (c.take.ensures.takes (the_view c.self.inside))

pub returns-in-Local-clause-steps : goal.returns-in-Local-clause-steps
unfolding step
returns-in-Local-clause-steps c = rw (c.in-Local.is, ← c.self.view_is) (c.local.ensures.goes (the_view c.self.inside))

pub returns-in-Call-clause-steps : goal.returns-in-Call-clause-steps
unfolding step
returns-in-Call-clause-steps c = rw (c.in-Call.is, ← c.self.view_is) (c.call.ensures.comes (the_view c.self.inside))

pub returns-in_ok-end-in-End-clause-steps : goal.returns-in_ok-end-in-End-clause-steps
unfolding step
returns-in_ok-end-in-End-clause-steps c = rw (c.in-End.is, ← c.self.view_is) (c.in_ok-end-in-End.ensures (the_view c.self.inside))

pub returns-in_err-end-in-End-clause-steps : goal.returns-in_err-end-in-End-clause-steps
unfolding step
returns-in_err-end-in-End-clause-steps c =
    let p = err_from_is_err_and c.from_residual.result c.from_residual.ensures.1 in
    rw (p.1, p.2, c.in-End.is, ← c.self.view_is) (c.in_err-end-in-End.ensures (the_view c.self.inside))

pub returns-in-Ask-clause-steps : goal.returns-in-Ask-clause-steps
unfolding step
returns-in-Ask-clause-steps c = rw (c.in-Ask.is, ← c.self.view_is) (c.ask.ensures.asks (the_view c.self.inside))

pub returns-in_ok-deliver-in-Deliver-clause-steps : goal.returns-in_ok-deliver-in-Deliver-clause-steps
unfolding step
returns-in_ok-deliver-in-Deliver-clause-steps c = rw (c.in-Deliver.is, ← c.self.view_is) (c.in_ok-deliver-in-Deliver.ensures (the_view c.self.inside))

pub returns-in_err-deliver-in-Deliver-clause-steps : goal.returns-in_err-deliver-in-Deliver-clause-steps
unfolding step
returns-in_err-deliver-in-Deliver-clause-steps c =
    let p = err_from_is_err_and c.from_residual-in_err-deliver-in-Deliver.result c.from_residual-in_err-deliver-in-Deliver.ensures.1 in
    rw (p.1, p.2, c.in-Deliver.is, ← c.self.view_is) (c.in_err-deliver-in-Deliver.ensures (the_view c.self.inside))

pub returns-in-Release-clause-steps : goal.returns-in-Release-clause-steps
unfolding step
returns-in-Release-clause-steps c = rw (c.in-Release.is, ← c.self.view_is) (c.release.ensures.releases (the_view c.self.inside))

pub returns-in-Take-clause-memory : goal.returns-in-Take-clause-memory
returns-in-Take-clause-memory c = rw (c.in-Take.is, ← c.self.view_is) (λ is. c.take.ensures.memory is (the_view c.self.inside))

pub returns-in-Local-clause-memory : goal.returns-in-Local-clause-memory
returns-in-Local-clause-memory c = rw (c.in-Local.is, ← c.self.view_is) (λ is. c.local.ensures.memory is (the_view c.self.inside))

pub returns-in-Call-clause-memory : goal.returns-in-Call-clause-memory
returns-in-Call-clause-memory c = rw (c.in-Call.is, ← c.self.view_is) (λ is. c.call.ensures.memory is (the_view c.self.inside))

pub returns-in-Ask-clause-memory : goal.returns-in-Ask-clause-memory
returns-in-Ask-clause-memory c = rw (c.in-Ask.is, ← c.self.view_is) (λ is. c.ask.ensures.memory is (the_view c.self.inside))

pub returns-in-Release-clause-memory : goal.returns-in-Release-clause-memory
returns-in-Release-clause-memory c = rw (c.in-Release.is, ← c.self.view_is) (λ is. c.release.ensures.memory is (the_view c.self.inside))
