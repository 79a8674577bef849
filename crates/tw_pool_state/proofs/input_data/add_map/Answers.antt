use Rattle.std.proofs.Common.{◌∙◌, IfOk, ap, subst, sym}
use Rattle.tw_pool_state.proofs.PartNames.{IsAdded, NestedScalar, entries_short, entries_type, has_sums, map_with, members_by}
use Rattle.tw_types.specs.Store.{Datum, Maps, Values, added}
use Rattle.tw_datum.specs.Kept.{FitsType, closed_datum}
use Rattle.tw_datum.proofs.EnteredValues.{entered_fit, map_itself}
use Rattle.tw_pool_state.proofs.Adding.{closed_added, closed_live}
use Rattle.tw_pool_state.proofs.input_data.add_map.Goals as goal

pub entered-requires : goal.entered-requires
entered-requires g c = entries_short c.args.ty (has_sums c.args.ty.map) g.K.AsValue.scalar g.V.AsValue.scalar (members_by g.K.AsValue.value g.V.AsValue.value c.args.members.now) c.requires.fits

pub create_map-requires-clause-fits : goal.create_map-requires-clause-fits
create_map-requires-clause-fits g c =
    let ty = entries_type c.args.ty (has_sums c.args.ty.map) g.K.AsValue.scalar g.V.AsValue.scalar (members_by g.K.AsValue.value g.V.AsValue.value c.args.members.now) c.requires.fits in
    subst (λ (v : Values). FitsType c.args.ty (Maps v)) (sym c.in_ok-values.ensures)
    (entered_fit g.K.AsValue.value g.V.AsValue.value g.K.AsValue.scalar g.V.AsValue.scalar g.met.K.AsValue.of_scalar g.met.V.AsValue.of_scalar c.args.ty (map_itself (has_sums c.args.ty.map) g.K.AsValue.scalar g.V.AsValue.scalar c.args.ty ty) c.args.members.now)

pub returns-clause-added : goal.returns-clause-added
returns-clause-added g c =
    let es = members_by g.K.AsValue.value g.V.AsValue.value c.args.members.now in
    let ty = entries_type c.args.ty (has_sums c.args.ty.map) g.K.AsValue.scalar g.V.AsValue.scalar es c.requires.fits in
    let e = c.create_map.ensures in
    let is = ap (λ (t : NestedScalar). closed_datum t (Maps c.in_ok-values.values)) ty ∙ ap (λ (v : Values). closed_datum (map_with (has_sums c.args.ty.map) g.K.AsValue.scalar g.V.AsValue.scalar) (Maps v)) c.in_ok-values.ensures in
    subst (λ (x : Datum). IfOk c.create_map.result (IsAdded (added c.args.store.now.store x) c.args.store.now c.create_map.new.self)) is
    (closed_added c.create_map.result c.args.store.now c.create_map.new.self (closed_datum c.args.ty (Maps c.in_ok-values.values)) e.made e.read e.places e.here e.quiet)

pub returns-clause-live : goal.returns-clause-live
returns-clause-live g c =
    let e = c.create_map.ensures in
    closed_live c.create_map.result c.args.store.now c.create_map.new.self (closed_datum c.args.ty (Maps c.in_ok-values.values)) e.made e.places c.requires.live
