use Rattle.tw_pool_state.proofs.PartNames.{IsMade, OpenedParts, Read, Some, [], ap, arith, length, length-append, subst, sym, with_given, ◌++◌, ◌∷◌}
use Rattle.tw_pool_state.proofs.MainParameters.{given_made, has_place}
use Rattle.tw_pool_state.proofs.open.Opened.add_given.Goals as goal

pub push_reserved-requires : goal.push_reserved-requires
push_reserved-requires c =
    let may = c.requires.room in
    let few = has_place may.0 may.1 c.args.self.now may.2 may.4 c.args.param may.3 in
    omega (arith, few, ap (λ (o : OpenedParts). length o.args) c.self.view_is, c.self.inside.args.ok.0, c.self.invariant.2)

pub invariant_of-self-2 : goal.invariant_of-self-2
invariant_of-self-2 c =
    let may = c.requires.room in
    let few = has_place may.0 may.1 c.args.self.now may.2 may.4 c.args.param may.3 in (
      c.self.invariant.0,
      omega (arith, few, ap (λ (o : OpenedParts). length o.args) c.self.view_is, ap length c.push_reserved.ensures.items, length-append c.self.inside.args.items (Read c.in-Ok.right ∷ [])),
      omega (arith, c.push_reserved.ensures.capacity, c.self.invariant.2),
      c.self.invariant.3,
      c.self.invariant.4,
    )

pub returns : goal.returns
returns c = λ servers params made h.
    let p = c.args.param in
    let inside : OpenedParts = record { store = c.self.inside.store; args = c.self.inside.args.items; outputs = c.self.inside.rights.items } in
    let was : IsMade servers params inside made = subst (λ (o : OpenedParts). IsMade servers params o made) (sym c.self.view_is) h in
    let is = given_made servers params inside made was p c.args.input.now c.add_input.new.store c.in-Ok.right c.requires.read c.requires.right c.requires.fits c.in-Ok.ensures.added c.in-Ok.ensures.live in
    let args = c.push_reserved.ensures.items in
    subst (λ (o : OpenedParts). IsMade servers (params ++ p ∷ []) o (with_given made c.args.param.ty (Some c.args.input.now)))
    (λ i. record { store = c.add_input.new.store; args = sym args i; outputs = c.self.inside.rights.items }) is
