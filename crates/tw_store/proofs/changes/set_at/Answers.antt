use Rattle.tw_store.proofs.Names.{PlacedDatum, ap, set_to, sym}
use Rattle.tw_store.proofs.Remain.{if_some, seated_left, written_remains, written_settled}
use Rattle.tw_store.proofs.changes.set_at.Goals as goal

pub free_unheld-requires : goal.free_unheld-requires
free_unheld-requires c =
    let there = sym c.in-Some.ensures.value in
    (c.requires.seated.0, seated_left _ _ (written_remains c.args.slab.now.slots c.requires.seated.0 c.args.place c.in-Some.slot.now c.requires.seated.1 there c.set.new.self (ap (λ (d : PlacedDatum). d.members) c.set.ensures)) c.requires.seated.0 c.requires.seated.1)

pub returns-clause-settled : goal.returns-clause-settled
returns-clause-settled c =
    let there = sym c.in-Some.ensures.value in
    if_some _ _ c.in-Some.slot.now there (written_settled c.args.slab.now.slots c.requires.seated.0 c.args.place c.in-Some.slot.now c.requires.seated.1 there c.set.new.self (ap (λ (d : PlacedDatum). d.members) c.set.ensures)
    (set_to c.args.value) c.free_unheld.new.slab.slots (ap (λ (d : PlacedDatum). d.datum) c.set.ensures) c.free_unheld.ensures.live c.free_unheld.ensures.remains)
