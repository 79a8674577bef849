use Rattle.tw_store.proofs.Names.{on_ok, sym, with_entry}
use Rattle.tw_store.proofs.Remain.{changed_at}
use Rattle.tw_store.proofs.changes.put_at.Goals as goal

pub returns-clause-put : goal.returns-clause-put
returns-clause-put c = on_ok c.put_value.result c.put_value.ensures.added (λ is. changed_at c.args.slab.now.slots c.args.place c.in-Some.slot.now c.put_value.new.self (with_entry c.args.subscript c.args.value) (sym c.in-Some.ensures.value) is)
