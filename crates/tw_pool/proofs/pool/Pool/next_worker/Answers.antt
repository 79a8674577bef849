use Rattle.tw_pool.proofs.Names.{PoolView, actor_count, ap, arith, refl, ◌+◌, ◌∙◌, ◌≡◌}
use Rattle.tw_pool.proofs.Idling.{found, group_goes_on, none_between, shorter, worker_at}
use Rattle.tw_pool.proofs.pool.Pool.next_worker.Goals as goal

pub loop-worker-init : goal.loop-worker-init
loop-worker-init c =
    let layout = c.args.self.now.layout in
    let first = layout.engines + layout.servers + c.args.from in
    record { low = omega arith; idle = none_between c.args.self.now first first (omega arith) }

pub worker_rests-requires-clause-worker : goal.worker_rests-requires-clause-worker
worker_rests-requires-clause-worker c =
    let workers : c.workers-worker-end.result ≡ c.args.self.now.layout.workers = c.workers-worker-end.ensures ∙ ap (λ (p : PoolView). p.layout.workers) c.self.view_is in
    omega (arith, workers, c.loop-worker-test.true)

pub returns-then-not-worker_rests : goal.returns-then-not-worker_rests
returns-then-not-worker_rests c =
    let engines : c.engines.result ≡ c.args.self.now.layout.engines = c.engines.ensures ∙ ap (λ (p : PoolView). p.layout.engines) c.self.view_is in
    let servers : c.servers.result ≡ c.args.self.now.layout.servers = c.servers.ensures ∙ ap (λ (p : PoolView). p.layout.servers) c.self.view_is in
    let workers : c.workers-worker-end.result ≡ c.args.self.now.layout.workers = c.workers-worker-end.ensures ∙ ap (λ (p : PoolView). p.layout.workers) c.self.view_is in
    let now = c.args.self.now in
    let inv = c.loop-worker.invariant in
    let first = now.layout.engines + now.layout.servers in
    found now (first + c.args.from) (first + c.loop-worker.worker) _ _ (omega (arith, engines, servers)) (omega (arith, inv.low)) (omega (arith, workers, c.loop-worker-test.true)) inv.idle

pub loop-worker-preserved : goal.loop-worker-preserved
loop-worker-preserved c =
    let now = c.args.self.now in
    let worker = c.loop-worker.worker in
    let inv = c.loop-worker.invariant in
    let first = now.layout.engines + now.layout.servers in
    record { low = omega (arith, inv.low); idle = group_goes_on now (first + c.args.from) first worker _ (worker_at now.layout worker) inv.idle (c.if-not-worker_rests.ensures refl) }

pub returns : goal.returns
returns c =
    let workers : c.workers-worker-end.result ≡ c.args.self.now.layout.workers = c.workers-worker-end.ensures ∙ ap (λ (p : PoolView). p.layout.workers) c.self.view_is in
    let now = c.args.self.now in
    let first = now.layout.engines + now.layout.servers in
    shorter now (first + c.args.from) (actor_count now.layout) (first + c.loop-worker.worker) (omega (arith, workers, c.loop-worker-test.false)) c.loop-worker.invariant.idle
