use Rattle.tw_pool.proofs.Names.{Actor, Engine, IsTurnBy, PoolView, TurnsFree, subst, sym, ◌∙◌}
use Rattle.tw_pool.proofs.pool.Pool.schedule.Goals as goal

pub returns-in-Some : goal.returns-in-Some
returns-in-Some c = subst (λ (a : Actor). IsTurnBy (λ s. TurnsFree c.args.self.now s a) c.args.self.now c.in-Some.answer c.ask.new.self) (sym c.in-Engine.is) c.in-Some.ensures

pub returns-in-Some-release : goal.returns-in-Some-release
returns-in-Some-release c =
    subst (λ (a : Actor). IsTurnBy (λ s. TurnsFree c.args.self.now s a) c.args.self.now c.in-Some-release.answer c.release.new.self) (sym c.in-Engine.is)
    (subst (λ (v : PoolView). IsTurnBy (λ s. TurnsFree v s (Engine c.in-Engine.engine)) v c.in-Some-release.answer c.release.new.self) c.in_default.ensures.0 c.in-Some-release.ensures)

pub returns-in_default-release : goal.returns-in_default-release
returns-in_default-release c =
    subst (λ (a : Actor). IsTurnBy (λ s. TurnsFree c.args.self.now s a) c.args.self.now c.take.result c.take.new.self) (sym c.in-Engine.is)
    (subst (λ (v : PoolView). IsTurnBy (λ s. TurnsFree v s (Engine c.in-Engine.engine)) v c.take.result c.take.new.self) (c.in_default-release.ensures.0 ∙ c.in_default.ensures.0) c.take.ensures)

pub returns-in-Server : goal.returns-in-Server
returns-in-Server c = subst (λ (a : Actor). IsTurnBy (λ s. TurnsFree c.args.self.now s a) c.args.self.now c.deliver.result c.deliver.new.self) (sym c.in-Server.is) c.deliver.ensures
