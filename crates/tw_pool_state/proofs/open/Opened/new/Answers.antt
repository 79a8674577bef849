use Rattle.tw_pool_state.proofs.MainParameters.{nothing_made}
use Rattle.tw_pool_state.proofs.open.Opened.new.Goals as goal

pub returns : goal.returns
returns c =
    nothing_made c.args.servers (record { store = c.in_ok-store.store; args = c.in-Ok.args.items; outputs = c.in_ok-rights.rights.items }) c.in_ok-store.ensures.store c.in_ok-store.ensures.places
    c.in_ok-store.ensures.queues c.in-Ok.ensures.items c.in_ok-rights.ensures.items
