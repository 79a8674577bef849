use Rattle.tw_instr.proofs.Names.{None, Some, TakesValue, ap, bare, changed_is, data_of, insert, on_err, on_ok, same, subst, with_entry, ◌∙◌}
use Rattle.tw_instr.proofs.Live.{found, written}
use Rattle.tw_instr.proofs.changes.put_in.Goals as goal

pub unreachable-requires : goal.unreachable-requires
unreachable-requires c = subst (TakesValue c.args.subscript c.args.value) (found c.args.live.now c.args.id None c.in_default.ensures.value) c.requires

pub put_value-requires : goal.put_value-requires
put_value-requires c = subst (TakesValue c.args.subscript c.args.value) (found c.args.live.now c.args.id (Some c.in-Some.datum.now) c.in-Some.ensures.value) c.requires

pub returns-clause-put : goal.returns-clause-put
returns-clause-put c =
    let changes = written c.args.live.now (c.get_mut.follows.lender c.put_value.new.self) c.args.id c.in-Some.datum.now c.put_value.new.self c.in-Some.ensures.value (c.get_mut.follows.holds c.put_value.new.self) in
    on_ok c.put_value.result c.put_value.ensures.added (λ added. λ s view. changed_is s _ _ c.args.id c.in-Some.datum.now.datum (with_entry c.args.subscript c.args.value) view (found c.args.live.now c.args.id (Some c.in-Some.datum.now) c.in-Some.ensures.value)
    (changes ∙ ap (insert (data_of c.args.live.now.entries) c.args.id) (ap bare added)))

pub returns-clause-refused : goal.returns-clause-refused
returns-clause-refused c =
    let there = (found c.args.live.now c.args.id (Some c.in-Some.datum.now) c.in-Some.ensures.value) in
    let changes = written c.args.live.now (c.get_mut.follows.lender c.put_value.new.self) c.args.id c.in-Some.datum.now c.put_value.new.self c.in-Some.ensures.value (c.get_mut.follows.holds c.put_value.new.self) in
    on_err c.put_value.result c.put_value.ensures.refused (λ kept. changes ∙ ap (insert (data_of c.args.live.now.entries) c.args.id) (ap bare kept) ∙ same _ _ _ there)
