use Rattle.tw_instr.proofs.Names.{None, Some, ap, bare, changed_is, data_of, insert, insert_container, insert_live, none_is, on_err, on_ok, same, with_member, ◌∙◌}
use Rattle.tw_instr.proofs.Live.{found, written}
use Rattle.tw_instr.proofs.changes.insert_in.Goals as goal

pub unreachable-requires : goal.unreachable-requires
unreachable-requires c = none_is _ (found c.args.live.now c.args.id None c.in_default.ensures.value) (insert_live _ _ _ c.requires)

pub add_member-requires : goal.add_member-requires
add_member-requires c = insert_container _ _ _ c.in-Some.datum.now.datum (found c.args.live.now c.args.id (Some c.in-Some.datum.now) c.in-Some.ensures.value) c.requires

pub returns-clause-inserted : goal.returns-clause-inserted
returns-clause-inserted c =
    let changes = written c.args.live.now (c.get_mut.follows.lender c.add_member.new.self) c.args.id c.in-Some.datum.now c.add_member.new.self c.in-Some.ensures.value (c.get_mut.follows.holds c.add_member.new.self) in
    on_ok c.add_member.result c.add_member.ensures.added (λ added. λ s view. changed_is s _ _ c.args.id c.in-Some.datum.now.datum (with_member c.args.subscript c.args.member) view (found c.args.live.now c.args.id (Some c.in-Some.datum.now) c.in-Some.ensures.value)
    (changes ∙ ap (insert (data_of c.args.live.now.entries) c.args.id) (ap bare added)))

pub returns-clause-refused : goal.returns-clause-refused
returns-clause-refused c =
    let there = (found c.args.live.now c.args.id (Some c.in-Some.datum.now) c.in-Some.ensures.value) in
    let changes = written c.args.live.now (c.get_mut.follows.lender c.add_member.new.self) c.args.id c.in-Some.datum.now c.add_member.new.self c.in-Some.ensures.value (c.get_mut.follows.holds c.add_member.new.self) in
    on_err c.add_member.result c.add_member.ensures.refused (λ kept. changes ∙ ap (insert (data_of c.args.live.now.entries) c.args.id) (ap bare kept) ∙ same _ _ _ there)
