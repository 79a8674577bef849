use Rattle.std.proofs.Common.{◌≡◌, true, sym, ap, subst, ◌∙◌}
use Rattle.std.proofs.lemmas.Bool.{and_parts}
use Rattle.tw_types.specs.DataType.{is_map, is_map_by, is_map_of}
use Rattle.tw_types.specs.StoreCalls.{entries_in}
use Rattle.tw_types.specs.TypedStore.{AreEntriesFor}
use Rattle.tw_types.specs.Value.{scalar_of}
use Rattle.tw_types.proofs.Subscripts.{no_kinds}
use Rattle.tw_datum.specs.declared.datum.Content.{Content}
use Rattle.tw_datum.specs.Kept.{KeptDatum, content_of}
use Rattle.tw_datum.proofs.Members.{not_container, still_values}
use Rattle.tw_datum.proofs.datum.Datum.put_value.Goals as goal

pub invariant_of-self : goal.invariant_of-self
invariant_of-self g c =
    let id = g.M.Member.id in
    let ty = c.self.inside.ty in
    let kind = ap (λ (d : KeptDatum g.row.M.Denot). is_map_of (scalar_of c.args.subscript) (scalar_of c.args.value) d.datum.ty) c.self.view_is ∙ c.requires in
    let mapped : is_map ty ≡ true = (and_parts (is_map ty) _ (and_parts (is_map_by (scalar_of c.args.subscript) ty) _ kind).0).0 in
    let kinds = subst (λ (x : Content g.row.M.Denot). AreEntriesFor ty (entries_in (content_of id x))) c.in-Maps.is c.self.invariant.1.1 in
    ((sym (not_container ty mapped), sym mapped), (no_kinds ty, still_values c.insert.result ty c.in-Maps.values c.insert.new.self c.args.subscript c.args.value kinds kind c.insert.ensures.added c.insert.ensures.refused))
