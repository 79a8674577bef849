use Rattle.tw_store.proofs.Names.{Some, get, sym, ◌≡◌}
use Rattle.tw_store.proofs.Members.{member_is, member_knows}
use Rattle.tw_store.proofs.store.Store.member.Goals as goal

pub returns : goal.returns
returns c =
    let e = c.in_ok-subscript.field-0.now in
    let has : get c.args.container.now.members e.0 ≡ Some e.1 = c.in_ok-subscript.ensures.kept in (
      sym c.in_ok-subscript.ensures.member,
      member_is c.self.inside.slab c.self.inside.next c.self.inside.queues.items c.args.self.now c.self.view_is c.self.invariant.0 c.args.container.now c.requires e.0 e.1 has c.member_at.result c.member_at.ensures.found c.member_at.ensures.absent,
      member_knows c.self.inside.slab c.self.inside.next c.self.inside.queues.items c.args.self.now c.self.view_is c.self.invariant.0 c.args.container.now c.requires e.0 e.1 has c.member_at.result c.member_at.ensures.found,
    )
