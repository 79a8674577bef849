use Rattle.tw_pool.proofs.Names.{DoneView, IsTurn, None, Option, Owed, Some, subst, sym, ◌∙◌}
use Rattle.tw_pool.proofs.Turning as turning
use Rattle.tw_pool.proofs.pool.Pool.turn.Goals as goal

pub returns-in-Some : goal.returns-in-Some
returns-in-Some c = turning.over _ _ _ c.self.inside.stopped c.self.inside.history c.self.inside.parts c.self.invariant c.args.self.now c.self.view_is c.args.actor c.args.given c.in-Some.closing (λ s at. sym c.in-Some.is ∙ c.closing.ensures s at)

pub submit-requires-clause-room : goal.submit-requires-clause-room
submit-requires-clause-room c = turning.room_if _ _ _ c.self.inside.stopped c.self.inside.history c.self.inside.parts c.self.invariant c.args.self.now c.self.view_is (λ s at. sym c.in_default.is ∙ c.closing.ensures s at)

pub returns-in-Some-given : goal.returns-in-Some-given
returns-in-Some-given c =
    subst (λ (g : Option DoneView). IsTurn c.args.self.now c.args.actor g c.submit.result c.submit.new.self) (sym c.in-Some-given.is)
    (turning.unless c.args.self.now _ c.args.actor (Some c.in-Some-given.done) c.submit.result (λ s at. sym c.in_default.is ∙ c.closing.ensures s at) c.submit.ensures)

pub schedule-requires-clause-room : goal.schedule-requires-clause-room
schedule-requires-clause-room c = turning.room_if _ _ _ c.self.inside.stopped c.self.inside.history c.self.inside.parts c.self.invariant c.args.self.now c.self.view_is (λ s at. sym c.in_default.is ∙ c.closing.ensures s at)

pub schedule-requires-clause-free : goal.schedule-requires-clause-free
schedule-requires-clause-free c = turning.is_free _ _ _ c.self.inside.stopped c.self.inside.history c.self.inside.parts c.self.invariant c.args.self.now c.self.view_is c.args.actor c.if-has_task.ensures

pub returns-then-has_task : goal.returns-then-has_task
returns-then-has_task c =
    subst (λ (g : Option DoneView). IsTurn c.args.self.now c.args.actor g Owed c.args.self.now) (sym c.in-None.is)
    (turning.unless c.args.self.now c.args.self.now c.args.actor None Owed (λ s at. sym c.in_default.is ∙ c.closing.ensures s at) (turning.owed_if _ _ _ c.self.inside.stopped c.self.inside.history c.self.inside.parts c.self.invariant c.args.self.now c.self.view_is c.args.actor c.if-has_task.ensures))

pub returns-else-has_task : goal.returns-else-has_task
returns-else-has_task c =
    subst (λ (g : Option DoneView). IsTurn c.args.self.now c.args.actor g c.schedule.result c.schedule.new.self) (sym c.in-None.is)
    (turning.unless c.args.self.now _ c.args.actor None c.schedule.result (λ s at. sym c.in_default.is ∙ c.closing.ensures s at) (turning.without_task c.args.self.now _ c.args.actor c.schedule.result (turning.is_free _ _ _ c.self.inside.stopped c.self.inside.history c.self.inside.parts c.self.invariant c.args.self.now c.self.view_is c.args.actor c.if-has_task.ensures) c.schedule.ensures))
