use Rattle.tw_machine.proofs.Names.{Given, added_given, ap, as_container, as_map, is_given_for, members_by, subst, sym, true, ◌∙◌, ◌≡◌}
use Rattle.tw_types.proofs.Came.{on_ok}
use Rattle.tw_machine.proofs.opened.add_members.Goals as goal

pub add_map-requires-clause-fits : goal.add_map-requires-clause-fits
add_map-requires-clause-fits g c =
    subst (λ (x : Given). is_given_for c.args.ty x ≡ true) (as_map c.args.ty g.K.AsValue.scalar g.V.AsValue.scalar (members_by g.K.AsValue.value g.V.AsValue.value c.args.members.now) (sym c.is_map.ensures ∙ c.if-is_map.true)) c.requires.fits

pub returns-then-is_map : goal.returns-then-is_map
returns-then-is_map g c =
    on_ok c.add_map.result c.add_map.ensures (λ e. e ∙ ap (added_given c.args.store.now) (sym (as_map c.args.ty g.K.AsValue.scalar g.V.AsValue.scalar (members_by g.K.AsValue.value g.V.AsValue.value c.args.members.now) (sym c.is_map.ensures ∙ c.if-is_map.true))))

pub add_container-requires-clause-fits : goal.add_container-requires-clause-fits
add_container-requires-clause-fits g c =
    subst (λ (x : Given). is_given_for c.args.ty x ≡ true) (as_container c.args.ty g.K.AsValue.scalar g.V.AsValue.scalar (members_by g.K.AsValue.value g.V.AsValue.value c.args.members.now) (sym c.is_map.ensures ∙ c.if-is_map.false)) c.requires.fits

pub returns-else-is_map : goal.returns-else-is_map
returns-else-is_map g c =
    on_ok c.add_container.result c.add_container.ensures (λ e. e ∙ ap (added_given c.args.store.now) (sym (as_container c.args.ty g.K.AsValue.scalar g.V.AsValue.scalar (members_by g.K.AsValue.value g.V.AsValue.value c.args.members.now) (sym c.is_map.ensures ∙ c.if-is_map.false))))
