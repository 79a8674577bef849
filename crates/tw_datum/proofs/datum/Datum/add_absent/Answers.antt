use Rattle.std.proofs.Common.{◌≡◌, sym, ap, subst, ◌∙◌, refl}
use Rattle.tw_types.specs.DataType.{is_container_by}
use Rattle.tw_types.specs.Store.{Members, Contains}
use Rattle.tw_types.specs.StoreCalls.{members_in}
use Rattle.tw_types.specs.TypedStore.{AreSubscriptsFor}
use Rattle.tw_types.specs.Value.{scalar_of}
use Rattle.tw_types.specs.ValueOrder.{named}
use Rattle.tw_types.proofs.SameTypes.{by_container, container_only}
use Rattle.tw_types.proofs.Subscripts.{no_entries}
use Rattle.tw_datum.specs.declared.datum.Content.{Content}
use Rattle.tw_datum.specs.Kept.{KeptDatum, KeptMembers, with_kept_member, content_of, members_kept, ids_of}
use Rattle.tw_datum.proofs.Members.{kinds_after, member_added}
use Rattle.tw_datum.proofs.datum.Datum.add_absent.Goals as goal

pub returns : goal.returns
returns g c =
    let id = g.M.Member.id in
    let ms = c.in-Contains.members in
    let M = g.row.M.Denot in
    let k = named c.args.subscript in
    let seen : Members → KeptMembers M → KeptDatum M = λ (ids : Members) (ms : KeptMembers M). record {
      datum = record { ty = c.self.inside.ty; content = Contains ids; reads = c.self.inside.reads; writes = c.self.inside.writes; subscribers = c.self.inside.subscribers.items };
      members = ms;
    } in
    let view : Content M → KeptDatum M = λ (x : Content M). record {
      datum = record { ty = c.self.inside.ty; content = content_of id x; reads = c.self.inside.reads; writes = c.self.inside.writes; subscribers = c.self.inside.subscribers.items };
      members = members_kept x;
    } in
    let is : seen (ids_of id ms) ms ≡ c.args.self.now = ap view (sym c.in-Contains.is) ∙ c.self.view_is in
    member_added id seen c.args.self.now ms c.add.new.self k c.args.member (λ _ _. refl) is c.add.result (ap (with_kept_member id k c.args.member) is) c.add.ensures

pub invariant_of-self : goal.invariant_of-self
invariant_of-self g c =
    let id = g.M.Member.id in
    let ty = c.self.inside.ty in
    let k = named c.args.subscript in
    let kind = ap (λ (d : KeptDatum g.row.M.Denot). is_container_by (scalar_of k) d.datum.ty) c.self.view_is ∙ c.requires.container in
    let kinds = subst (λ (x : Content g.row.M.Denot). AreSubscriptsFor ty (members_in (content_of id x))) c.in-Contains.is c.self.invariant.1.0 in
    let container = by_container (scalar_of k) ty kind in
    ((sym container, sym (container_only ty container).1), (kinds_after id c.add.result ty c.in-Contains.members c.add.new.self k c.args.member kinds kind c.add.ensures, no_entries ty))
