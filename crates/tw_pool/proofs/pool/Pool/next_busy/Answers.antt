use Rattle.tw_pool.proofs.Names.{Actor, ActorCounts, PoolView, actor_at, actor_count, ap, arith, is_in, ltb-true, subst, sym, true, ℕ, ◌<◌, ◌∙◌, ◌≡◌}
use Rattle.tw_pool.proofs.Idling.{from_index, none_between}
use Rattle.tw_pool.proofs.pool.Pool.next_busy.Goals as goal

inside : (own layout : ActorCounts) (first actor : Actor) → own ≡ layout → is_in own first ≡ true → first ≡ actor → is_in layout actor ≡ true
inside own layout first actor same there is = subst (λ (a : Actor). is_in layout a ≡ true) is (subst (λ (l : ActorCounts). is_in l first ≡ true) same there)

is_at : (own layout : ActorCounts) (first actor : Actor) (from : ℕ) → own ≡ layout → first ≡ actor_at own from → first ≡ actor → actor ≡ actor_at layout from
is_at own layout first actor from same at is = sym is ∙ (at ∙ ap (λ (l : ActorCounts). actor_at l from) same)

pub returns-then-count-from : goal.returns-then-count-from
returns-then-count-from c =
    let now = c.args.self.now in
    let same : c.self.inside.layout ≡ c.args.self.now.layout = ap (λ (p : PoolView). p.layout) c.self.view_is in
    let count : c.actor_count-count.result ≡ actor_count now.layout = c.actor_count-count.ensures.is ∙ ap actor_count same in
    none_between now c.args.from (actor_count now.layout) (omega (arith, count, c.if-count-from.true))

pub returns-then-has_task : goal.returns-then-has_task
returns-then-has_task c =
    let now = c.args.self.now in
    let same : c.self.inside.layout ≡ c.args.self.now.layout = ap (λ (p : PoolView). p.layout) c.self.view_is in
    let count : c.actor_count-count.result ≡ actor_count now.layout = c.actor_count-count.ensures.is ∙ ap actor_count same in
    (omega arith, omega (arith, count, c.if-count-from.false), none_between now c.args.from c.args.from (omega arith))

pub returns-in-Some : goal.returns-in-Some
returns-in-Some c =
    let now = c.args.self.now in
    let same : c.self.inside.layout ≡ c.args.self.now.layout = ap (λ (p : PoolView). p.layout) c.self.view_is in
    let count : c.actor_count-count.result ≡ actor_count now.layout = c.actor_count-count.ensures.is ∙ ap actor_count same in
    (omega arith, omega (arith, count, c.if-count-from.false), none_between now c.args.from c.args.from (omega arith))

pub next_engine-requires-clause-runs_on : goal.next_engine-requires-clause-runs_on
next_engine-requires-clause-runs_on c = λ s at. sym (c.closing.ensures s at) ∙ c.in_default.is

pub next_engine-requires-clause-engine : goal.next_engine-requires-clause-engine
next_engine-requires-clause-engine c =
    let same : c.self.inside.layout ≡ c.args.self.now.layout = ap (λ (p : PoolView). p.layout) c.self.view_is in
    let there : c.in-Engine.engine < c.args.self.now.layout.engines = ltb-true _ _ (inside _ _ _ _ same c.actor_at-first.ensures.there c.in-Engine.is) in
    omega (arith, there)

pub next_server-requires-clause-runs_on : goal.next_server-requires-clause-runs_on
next_server-requires-clause-runs_on c = λ s at. sym (c.closing.ensures s at) ∙ c.in_default.is

pub next_server-requires-clause-server : goal.next_server-requires-clause-server
next_server-requires-clause-server c =
    let same : c.self.inside.layout ≡ c.args.self.now.layout = ap (λ (p : PoolView). p.layout) c.self.view_is in
    let there : c.in-Server.server < c.args.self.now.layout.servers = ltb-true _ _ (inside _ _ _ _ same c.actor_at-first.ensures.there c.in-Server.is) in
    omega (arith, there)

pub next_worker-requires : goal.next_worker-requires
next_worker-requires c = record { runs_on = λ s at. sym (c.closing.ensures s at) ∙ c.in_default.is }

pub returns-in-Engine : goal.returns-in-Engine
returns-in-Engine c =
    let same : c.self.inside.layout ≡ c.args.self.now.layout = ap (λ (p : PoolView). p.layout) c.self.view_is in
    from_index c.args.self.now c.args.from (actor_count c.args.self.now.layout) _ _ (is_at _ _ _ _ c.args.from same c.actor_at-first.ensures.is c.in-Engine.is) c.next_engine.ensures

pub returns-in-Server : goal.returns-in-Server
returns-in-Server c =
    let same : c.self.inside.layout ≡ c.args.self.now.layout = ap (λ (p : PoolView). p.layout) c.self.view_is in
    from_index c.args.self.now c.args.from (actor_count c.args.self.now.layout) _ _ (is_at _ _ _ _ c.args.from same c.actor_at-first.ensures.is c.in-Server.is) c.next_server.ensures

pub returns-in-Worker : goal.returns-in-Worker
returns-in-Worker c =
    let same : c.self.inside.layout ≡ c.args.self.now.layout = ap (λ (p : PoolView). p.layout) c.self.view_is in
    from_index c.args.self.now c.args.from (actor_count c.args.self.now.layout) _ _ (is_at _ _ _ _ c.args.from same c.actor_at-first.ensures.is c.in-Worker.is) c.next_worker.ensures
