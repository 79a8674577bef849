use Rattle.tw_store.proofs.Names.{named, sym}
use Rattle.tw_store.proofs.Remain.{inserted_at}
use Rattle.tw_store.proofs.changes.insert_at.Goals as goal

pub returns-clause-inserted : goal.returns-clause-inserted
returns-clause-inserted c =
    inserted_at c.add_absent.result c.args.slab.now.slots c.args.place c.in-Some.slot.now c.add_absent.new.self (named c.args.subscript) c.args.member (sym c.in-Some.ensures.value) c.add_absent.ensures c.requires.member
