use Rattle.tw_pool_state.proofs.PartNames.{Inserted, IsInsertion, IsProper, Subscript, get, may_insert, scalar_of, subst, sym, ◌≡◌}
use Rattle.std.specs.declared.result.Result.TheVariants.{Ok}
use Rattle.tw_pool_state.proofs.Adding.{member_added, member_allowed, member_not_there}
use Rattle.tw_pool_state.proofs.input_data.add_member.Goals as goal

pub insert_under-requires-clause-proper : goal.insert_under-requires-clause-proper
insert_under-requires-clause-proper g c = subst IsProper (sym c.as_value.ensures.is) (c.as_value.ensures.proper c.requires.short)

pub insert_under-requires-clause-allowed : goal.insert_under-requires-clause-allowed
insert_under-requires-clause-allowed g c =
    subst (λ (k : Subscript). may_insert (scalar_of k) (get c.add_value.new.store.store.live c.args.container.now.id) (get c.add_value.new.store.store.live c.in_ok-member.member.id) ≡ Ok tt) (sym c.as_value.ensures.is)
    (member_allowed c.args.store.now c.add_value.new.store (g.V.AsValue.value c.args.value.now) c.in_ok-member.member c.in_ok-member.ensures.added c.args.container.now.id c.requires.before (scalar_of (g.K.AsValue.value c.args.subscript.now)) c.requires.element)

pub unreachable-requires : goal.unreachable-requires
unreachable-requires g c =
    let k = g.K.AsValue.value c.args.subscript.now in
    let e = subst (λ (j : Subscript). IsInsertion c.add_value.new.store c.args.container.now.id j c.in_ok-member.member (Ok c.in-Ok-Present.field-0) c.insert_under.new.self) c.as_value.ensures.is c.in-Ok-Present.ensures in
    let there = subst (λ (a : Inserted). IsInsertion c.add_value.new.store c.args.container.now.id k c.in_ok-member.member (Ok a) c.insert_under.new.self) c.in-Ok-Present.field-0-is e in
    member_not_there c.args.store.now c.add_value.new.store (g.V.AsValue.value c.args.value.now) c.in_ok-member.member c.in_ok-member.ensures.added c.args.container.now.id c.requires.before (scalar_of k) c.requires.element k c.requires.absent there.0

pub returns-in-Ok-Done : goal.returns-in-Ok-Done
returns-in-Ok-Done g c =
    let k = g.K.AsValue.value c.args.subscript.now in
    let e = subst (λ (j : Subscript). IsInsertion c.add_value.new.store c.args.container.now.id j c.in_ok-member.member (Ok c.in-Ok-Done.field-0) c.insert_under.new.self) c.as_value.ensures.is c.in-Ok-Done.ensures in
    let there = subst (λ (a : Inserted). IsInsertion c.add_value.new.store c.args.container.now.id k c.in_ok-member.member (Ok a) c.insert_under.new.self) c.in-Ok-Done.field-0-is e in
    member_added c.args.store.now c.add_value.new.store (g.V.AsValue.value c.args.value.now) c.in_ok-member.member c.in_ok-member.ensures.added c.args.container.now.id c.requires.before (scalar_of k) c.requires.element c.insert_under.new.self k
    c.in_ok-member.ensures.live there.1
