use Rattle.tw_instr.proofs.Names.{None, Some, absent_is, ap, bare, changed_is, data_of, insert, on_err, on_ok, same, with_subscriber, ◌∙◌}
use Rattle.tw_instr.proofs.Live.{found, written}
use Rattle.tw_instr.proofs.changes.subscribe_in.Goals as goal

pub returns-in_default-clause-noted : goal.returns-in_default-clause-noted
returns-in_default-clause-noted c = λ s view. absent_is s _ _ c.args.id (with_subscriber c.args.subscriber) view (found c.args.live.now c.args.id None c.in_default.ensures.value) (ap (λ m. data_of m.entries) c.get_mut.follows.holds-at-none)

pub returns-clause-noted : goal.returns-clause-noted
returns-clause-noted c =
    let changes = written c.args.live.now (c.get_mut.follows.lender c.add_subscriber.new.self) c.args.id c.in-Some.datum.now c.add_subscriber.new.self c.in-Some.ensures.value (c.get_mut.follows.holds c.add_subscriber.new.self) in
    on_ok c.add_subscriber.result c.add_subscriber.ensures.added (λ added. λ s view. changed_is s _ _ c.args.id c.in-Some.datum.now.datum (with_subscriber c.args.subscriber) view (found c.args.live.now c.args.id (Some c.in-Some.datum.now) c.in-Some.ensures.value)
    (changes ∙ ap (insert (data_of c.args.live.now.entries) c.args.id) (ap bare added)))

pub returns-clause-refused : goal.returns-clause-refused
returns-clause-refused c =
    let there = (found c.args.live.now c.args.id (Some c.in-Some.datum.now) c.in-Some.ensures.value) in
    let changes = written c.args.live.now (c.get_mut.follows.lender c.add_subscriber.new.self) c.args.id c.in-Some.datum.now c.add_subscriber.new.self c.in-Some.ensures.value (c.get_mut.follows.holds c.add_subscriber.new.self) in
    on_err c.add_subscriber.result c.add_subscriber.ensures.refused (λ kept. changes ∙ ap (insert (data_of c.args.live.now.entries) c.args.id) (ap bare kept) ∙ same _ _ _ there)
