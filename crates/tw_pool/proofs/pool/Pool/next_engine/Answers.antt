use Rattle.tw_pool.proofs.Names.{Actor, IsIdle, PoolView, actor_count, ap, arith, refl, subst, sym, ◌<◌, ◌∙◌, ◌≡◌}
use Rattle.tw_pool.proofs.Idling.{engine_at, found, goes_on, none_between, one_more}
use Rattle.tw_pool.proofs.pool.Pool.next_engine.Goals as goal

pub loop-engine-init : goal.loop-engine-init
loop-engine-init c = record { low = omega arith; idle = none_between c.args.self.now c.args.from c.args.from (omega arith) }

pub engine_rests-requires-clause-engine : goal.engine_rests-requires-clause-engine
engine_rests-requires-clause-engine c =
    let engines : c.engines-engine-end.result ≡ c.args.self.now.layout.engines = c.engines-engine-end.ensures ∙ ap (λ (p : PoolView). p.layout.engines) c.self.view_is in
    omega (arith, engines, c.loop-engine-test.true)

pub returns-then-not-engine_rests : goal.returns-then-not-engine_rests
returns-then-not-engine_rests c =
    let engines : c.engines-engine-end.result ≡ c.args.self.now.layout.engines = c.engines-engine-end.ensures ∙ ap (λ (p : PoolView). p.layout.engines) c.self.view_is in
    found c.args.self.now c.args.from c.loop-engine.engine _ _ (omega arith) c.loop-engine.invariant.low (omega (arith, engines, c.loop-engine-test.true)) c.loop-engine.invariant.idle

pub loop-engine-preserved : goal.loop-engine-preserved
loop-engine-preserved c =
    let engines : c.engines-engine-end.result ≡ c.args.self.now.layout.engines = c.engines-engine-end.ensures ∙ ap (λ (p : PoolView). p.layout.engines) c.self.view_is in
    let now = c.args.self.now in
    let engine = c.loop-engine.engine in
    let inv = c.loop-engine.invariant in
    let low : engine < now.layout.engines = omega (arith, engines, c.loop-engine-test.true) in
    record { low = omega (arith, inv.low); idle = one_more now c.args.from engine inv.idle (subst (λ (a : Actor). IsIdle now a) (sym (engine_at now.layout engine low)) (c.if-not-engine_rests.ensures refl)) }

pub next_server-requires-clause-server : goal.next_server-requires-clause-server
next_server-requires-clause-server c = omega arith

pub returns : goal.returns
returns c =
    let engines : c.engines-engine-end.result ≡ c.args.self.now.layout.engines = c.engines-engine-end.ensures ∙ ap (λ (p : PoolView). p.layout.engines) c.self.view_is in
    let now = c.args.self.now in
    goes_on now c.args.from _ c.loop-engine.engine (actor_count now.layout) _ (omega (arith, c.requires.engine)) (omega (arith, engines, c.loop-engine-test.false)) c.loop-engine.invariant.idle c.next_server.ensures
