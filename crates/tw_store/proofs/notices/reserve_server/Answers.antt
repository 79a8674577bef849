use Rattle.std.proofs.Common.{◌≡◌, ◌<◌, ◌%◌, length, ap, ◌∙◌, arith, rules}
use Rattle.tw_store.proofs.Roomy.{have_room}
use Rattle.tw_store.proofs.Queues.{same_is, room_is, fits}
use Rattle.tw_store.proofs.notices.reserve_server.Goals as goal

pub returns-clause-same : goal.returns-clause-same
returns-clause-same c =
    let count : c.len.result ≡ length c.args.queues.now.items = search rules in
    let at : c.server_of-server.result ≡ c.args.id % length c.args.queues.now.items = c.server_of-server.ensures.server ∙ ap (λ n. c.args.id % n) count in
    let inside : c.server_of-server.result < length c.args.queues.now.items = omega (arith, c.server_of-server.ensures.inside, count) in
    same_is c.args.queues.now.items c.index_mut-queue.result.now c.reserve.new.self c.server_of-server.result inside c.index_mut-queue.ensures.value c.reserve.ensures.items

pub returns-clause-room : goal.returns-clause-room
returns-clause-room c =
    let count : c.len.result ≡ length c.args.queues.now.items = search rules in
    let at : c.server_of-server.result ≡ c.args.id % length c.args.queues.now.items = c.server_of-server.ensures.server ∙ ap (λ n. c.args.id % n) count in
    let inside : c.server_of-server.result < length c.args.queues.now.items = omega (arith, c.server_of-server.ensures.inside, count) in
    room_is c.args.queues.now.items c.index_mut-queue.result.now c.reserve.new.self c.server_of-server.result inside c.index_mut-queue.ensures.value c.reserve.result c.args.id c.args.count at c.reserve.ensures.ok

pub returns-clause-reserved : goal.returns-clause-reserved
returns-clause-reserved c =
    let count : c.len.result ≡ length c.args.queues.now.items = search rules in
    let at : c.server_of-server.result ≡ c.args.id % length c.args.queues.now.items = c.server_of-server.ensures.server ∙ ap (λ n. c.args.id % n) count in
    let inside : c.server_of-server.result < length c.args.queues.now.items = omega (arith, c.server_of-server.ensures.inside, count) in
    λ room.
    let fit = fits c.args.queues.now.items c.index_mut-queue.result.now c.reserve.new.self c.server_of-server.result inside c.index_mut-queue.ensures.value c.args.id c.args.count at room in
    search rules

pub returns-clause-kept : goal.returns-clause-kept
returns-clause-kept c =
    let count : c.len.result ≡ length c.args.queues.now.items = search rules in
    let inside : c.server_of-server.result < length c.args.queues.now.items = omega (arith, c.server_of-server.ensures.inside, count) in
    have_room c.args.queues.now.items c.index_mut-queue.result.now c.reserve.new.self c.server_of-server.result inside c.index_mut-queue.ensures.value (omega (arith, c.reserve.ensures.len, c.reserve.ensures.capacity))
