use Rattle.tw_store.proofs.Names.{one_write_more, sym}
use Rattle.tw_store.proofs.Remain.{changed_at}
use Rattle.tw_store.proofs.changes.add_write_at.Goals as goal

pub returns-clause-changed : goal.returns-clause-changed
returns-clause-changed c = changed_at c.args.slab.now.slots c.args.place c.in-Some.slot.now c.add_write.new.self one_write_more (sym c.in-Some.ensures.value) c.add_write.ensures
