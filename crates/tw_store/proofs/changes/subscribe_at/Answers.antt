use Rattle.tw_store.proofs.Names.{on_ok, sym, with_subscriber}
use Rattle.tw_store.proofs.Remain.{changed_at}
use Rattle.tw_store.proofs.changes.subscribe_at.Goals as goal

pub returns-clause-noted : goal.returns-clause-noted
returns-clause-noted c = on_ok c.add_subscriber.result c.add_subscriber.ensures.added (λ is. changed_at c.args.slab.now.slots c.args.place c.in-Some.slot.now c.add_subscriber.new.self (with_subscriber c.args.subscriber) (sym c.in-Some.ensures.value) is)
