use Rattle.tw_pool.proofs.Names.{PoolView, actor_count, ap, arith, refl, ◌+◌, ◌<◌, ◌∙◌, ◌≡◌}
use Rattle.tw_pool.proofs.Idling.{found, goes_on, group_goes_on, none_between, server_at}
use Rattle.tw_pool.proofs.pool.Pool.next_server.Goals as goal

pub loop-server-init : goal.loop-server-init
loop-server-init c =
    let first = c.args.self.now.layout.engines + c.args.from in
    record { low = omega arith; idle = none_between c.args.self.now first first (omega arith) }

pub server_rests-requires-clause-server : goal.server_rests-requires-clause-server
server_rests-requires-clause-server c =
    let servers : c.servers-server-end.result ≡ c.args.self.now.layout.servers = c.servers-server-end.ensures ∙ ap (λ (p : PoolView). p.layout.servers) c.self.view_is in
    omega (arith, servers, c.loop-server-test.true)

pub returns-then-not-server_rests : goal.returns-then-not-server_rests
returns-then-not-server_rests c =
    let engines : c.engines.result ≡ c.args.self.now.layout.engines = c.engines.ensures ∙ ap (λ (p : PoolView). p.layout.engines) c.self.view_is in
    let servers : c.servers-server-end.result ≡ c.args.self.now.layout.servers = c.servers-server-end.ensures ∙ ap (λ (p : PoolView). p.layout.servers) c.self.view_is in
    let now = c.args.self.now in
    let inv = c.loop-server.invariant in
    found now (now.layout.engines + c.args.from) (now.layout.engines + c.loop-server.server) _ _ (omega (arith, engines)) (omega (arith, inv.low)) (omega (arith, servers, c.loop-server-test.true)) inv.idle

pub loop-server-preserved : goal.loop-server-preserved
loop-server-preserved c =
    let servers : c.servers-server-end.result ≡ c.args.self.now.layout.servers = c.servers-server-end.ensures ∙ ap (λ (p : PoolView). p.layout.servers) c.self.view_is in
    let now = c.args.self.now in
    let server = c.loop-server.server in
    let inv = c.loop-server.invariant in
    let low : server < now.layout.servers = omega (arith, servers, c.loop-server-test.true) in
    record { low = omega (arith, inv.low); idle = group_goes_on now (now.layout.engines + c.args.from) (now.layout.engines) server _ (server_at now.layout server low) inv.idle (c.if-not-server_rests.ensures refl) }

pub returns : goal.returns
returns c =
    let servers : c.servers-server-end.result ≡ c.args.self.now.layout.servers = c.servers-server-end.ensures ∙ ap (λ (p : PoolView). p.layout.servers) c.self.view_is in
    let now = c.args.self.now in
    goes_on now (now.layout.engines + c.args.from) _ (now.layout.engines + c.loop-server.server) (actor_count now.layout) _ (omega (arith, c.requires.server)) (omega (arith, servers, c.loop-server-test.false)) c.loop-server.invariant.idle c.next_worker.ensures
