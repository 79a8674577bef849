use Rattle.tw_machine.proofs.Names.{FitsType, Maps, NestedScalar, Values, added, ap, closed_datum, entries_short, entries_type, has_sums, map_with, members_by, subst, sym, ◌∙◌}
use Rattle.tw_datum.proofs.EnteredValues.{entered_fit, map_itself}
use Rattle.tw_machine.proofs.opened.add_map.Goals as goal

pub entered-requires : goal.entered-requires
entered-requires g c = entries_short c.args.ty (has_sums c.args.ty.map) g.K.AsValue.scalar g.V.AsValue.scalar (members_by g.K.AsValue.value g.V.AsValue.value c.args.members.now) c.requires.fits

pub add_closed-requires-clause-fits : goal.add_closed-requires-clause-fits
add_closed-requires-clause-fits g c =
    let ty = entries_type c.args.ty (has_sums c.args.ty.map) g.K.AsValue.scalar g.V.AsValue.scalar (members_by g.K.AsValue.value g.V.AsValue.value c.args.members.now) c.requires.fits in
    subst (λ (v : Values). FitsType c.args.ty (Maps v)) (sym c.in_ok-values.ensures)
    (entered_fit g.K.AsValue.value g.V.AsValue.value g.K.AsValue.scalar g.V.AsValue.scalar g.met.K.AsValue.of_scalar g.met.V.AsValue.of_scalar c.args.ty (map_itself (has_sums c.args.ty.map) g.K.AsValue.scalar g.V.AsValue.scalar c.args.ty ty) c.args.members.now)

pub returns : goal.returns
returns g c =
    let es = members_by g.K.AsValue.value g.V.AsValue.value c.args.members.now in
    let ty = entries_type c.args.ty (has_sums c.args.ty.map) g.K.AsValue.scalar g.V.AsValue.scalar es c.requires.fits in
    c.in_ok-add_closed.ensures.made
    ∙ ap (added c.args.store.now) (ap (λ (t : NestedScalar). closed_datum t (Maps c.in_ok-values.values)) ty ∙ ap (λ (v : Values). closed_datum (map_with (has_sums c.args.ty.map) g.K.AsValue.scalar g.V.AsValue.scalar) (Maps v)) c.in_ok-values.ensures)
