use Rattle.std.proofs.Common.{◌≡◌, ◌∙◌, IfOk, true, subst, sym}
use Rattle.tw_pool_state.proofs.PartNames.{Given, IsAdded, added_given, as_container, as_map, is_given_for, members_by}
use Rattle.tw_pool_state.proofs.input_data.add_members.Goals as goal

pub add_map-requires-clause-fits : goal.add_map-requires-clause-fits
add_map-requires-clause-fits g c =
    subst (λ (x : Given). is_given_for c.args.ty x ≡ true) (as_map c.args.ty g.K.AsValue.scalar g.V.AsValue.scalar (members_by g.K.AsValue.value g.V.AsValue.value c.args.members.now) (sym c.is_map.ensures ∙ c.if-is_map.true)) c.requires.fits

pub returns-then-is_map-clause-added : goal.returns-then-is_map-clause-added
returns-then-is_map-clause-added g c =
    subst (λ (x : Given). IfOk c.add_map.result (IsAdded (added_given c.args.store.now.store x) c.args.store.now c.add_map.new.store)) (sym (as_map c.args.ty g.K.AsValue.scalar g.V.AsValue.scalar (members_by g.K.AsValue.value g.V.AsValue.value c.args.members.now) (sym c.is_map.ensures ∙ c.if-is_map.true)))
    c.add_map.ensures.added

pub add_container-requires-clause-fits : goal.add_container-requires-clause-fits
add_container-requires-clause-fits g c =
    subst (λ (x : Given). is_given_for c.args.ty x ≡ true) (as_container c.args.ty g.K.AsValue.scalar g.V.AsValue.scalar (members_by g.K.AsValue.value g.V.AsValue.value c.args.members.now) (sym c.is_map.ensures ∙ c.if-is_map.false)) c.requires.fits

pub returns-else-is_map-clause-added : goal.returns-else-is_map-clause-added
returns-else-is_map-clause-added g c =
    subst (λ (x : Given). IfOk c.add_container.result (IsAdded (added_given c.args.store.now.store x) c.args.store.now c.add_container.new.store)) (sym (as_container c.args.ty g.K.AsValue.scalar g.V.AsValue.scalar (members_by g.K.AsValue.value g.V.AsValue.value c.args.members.now) (sym c.is_map.ensures ∙ c.if-is_map.false)))
    c.add_container.ensures.added
