use Rattle.std.proofs.Common.{sym, ap, subst, ◌∙◌}
use Rattle.std.specs.FinMap as map
use Rattle.tw_types.specs.DataType.{is_container_by}
use Rattle.tw_types.specs.Store.{Members, Contains}
use Rattle.tw_types.specs.StoreCalls.{members_in}
use Rattle.tw_types.specs.TypedStore.{AreSubscriptsFor}
use Rattle.tw_types.specs.Value.{scalar_of}
use Rattle.tw_types.proofs.SameTypes.{by_container, container_only}
use Rattle.tw_types.proofs.Subscripts.{no_entries}
use Rattle.tw_datum.specs.declared.datum.Content.{Content}
use Rattle.tw_datum.specs.Kept.{KeptDatum, KeptMembers, with_kept_member, content_of, members_kept, ids_of}
use Rattle.tw_datum.proofs.Members.{insert_ids, still_kinds}
use Rattle.tw_types.proofs.Came.{on_ok}
use Rattle.tw_datum.proofs.datum.Datum.add_member.Goals as goal

pub returns-clause-added : goal.returns-clause-added
returns-clause-added g c =
    let id = g.M.Member.id in
    let ms = c.in-Contains.members in
    let M = g.row.M.Denot in
    let seen : Members → KeptMembers M → KeptDatum M = λ (ids : Members) (ms : KeptMembers M). record {
      datum = record { ty = c.self.inside.ty; content = Contains ids; reads = c.self.inside.reads; writes = c.self.inside.writes; subscribers = c.self.inside.subscribers.items };
      members = ms;
    } in
    let view : Content M → KeptDatum M = λ (x : Content M). record {
      datum = record { ty = c.self.inside.ty; content = content_of id x; reads = c.self.inside.reads; writes = c.self.inside.writes; subscribers = c.self.inside.subscribers.items };
      members = members_kept x;
    } in
    on_ok c.insert.result c.insert.ensures.added (λ added.
    ap (λ x. seen (ids_of id x) x) added
    ∙ ap (λ ids. seen ids (map.insert ms c.args.subscript c.args.member)) (insert_ids id ms c.args.subscript c.args.member)
    ∙ ap (with_kept_member id c.args.subscript c.args.member) (ap view (sym c.in-Contains.is) ∙ c.self.view_is))

pub invariant_of-self : goal.invariant_of-self
invariant_of-self g c =
    let id = g.M.Member.id in
    let ty = c.self.inside.ty in
    let kind = ap (λ (d : KeptDatum g.row.M.Denot). is_container_by (scalar_of c.args.subscript) d.datum.ty) c.self.view_is ∙ c.requires in
    let kinds = subst (λ (x : Content g.row.M.Denot). AreSubscriptsFor ty (members_in (content_of id x))) c.in-Contains.is c.self.invariant.1.0 in
    let container = by_container (scalar_of c.args.subscript) ty kind in
    ((sym container, sym (container_only ty container).1), (still_kinds id c.insert.result ty c.in-Contains.members c.insert.new.self c.args.subscript c.args.member kinds kind c.insert.ensures.added c.insert.ensures.refused, no_entries ty))
