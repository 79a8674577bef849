use Rattle.tw_pool.proofs.Names.{Engine, sym, ◌∙◌}
use Rattle.tw_pool.proofs.Idling.{engine_none, rests_if, unset}
use Rattle.tw_pool.proofs.pool.Pool.engine_rests.Goals as goal

pub returns : goal.returns
returns c = λ is. rests_if _ _ _ c.self.inside.stopped c.self.inside.history c.self.inside.parts c.self.invariant c.args.self.now c.self.view_is (Engine c.args.engine) c.if-has_task.ensures
    (engine_none _ _ _ c.self.inside.stopped c.self.inside.history c.self.inside.parts c.self.invariant c.args.self.now c.self.view_is c.args.engine (sym c.next_ask.ensures.ask ∙ c.in_default.is) (sym c.next_release.ensures ∙ c.in_default-next_release.is) (c.has_any.ensures (unset c.has_any.result is))) c.requires.runs_on
