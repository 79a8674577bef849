use Rattle.tw_pool_state.proofs.PartNames.{IsMade, OpenedParts, Right, Write, [], ap, arith, length, length-append, map as each, map-append, subst, sym, with_output, ◌++◌, ◌∙◌, ◌∷◌}
use Rattle.tw_pool_state.proofs.MainParameters.{has_place, output_made}
use Rattle.tw_pool_state.proofs.open.Opened.add_output.Goals as goal

pub push_reserved-requires-3 : goal.push_reserved-requires-3
push_reserved-requires-3 c =
    let may = c.requires.room in
    let few = has_place may.0 may.1 c.args.self.now may.2 may.4 c.args.param may.3 in
    omega (arith, few, ap (λ (o : OpenedParts). length o.args) c.self.view_is, c.self.inside.args.ok.0, c.self.invariant.2)

pub invariant_of-self-2 : goal.invariant_of-self-2
invariant_of-self-2 c =
    let may = c.requires.room in
    let few = has_place may.0 may.1 c.args.self.now may.2 may.4 c.args.param may.3 in
    let read = c.in-Ok.rights.1 in
    let of = λ (r : Right). r.id in (
      c.push_reserved-2.ensures.items ∙ (λ i. c.self.invariant.0 i ++ c.id-id.ensures i ∷ []) ∙ sym (map-append of c.self.inside.rights.items (read ∷ [])) ∙ ap (each of) (sym c.push_reserved.ensures.items),
      omega (arith, few, ap (λ (o : OpenedParts). length o.args) c.self.view_is, ap length c.push_reserved-3.ensures.items, length-append c.self.inside.args.items (Write c.in-Ok.rights.0 ∷ [])),
      omega (arith, c.push_reserved-3.ensures.capacity, c.self.invariant.2),
      omega (arith, c.push_reserved.ensures.capacity, c.self.invariant.3),
      omega (arith, c.push_reserved-2.ensures.capacity, c.self.invariant.4),
    )

pub returns : goal.returns
returns c = λ servers params made h.
    let e = c.in-Ok.ensures in
    let p = c.args.param in
    let inside : OpenedParts = record { store = c.self.inside.store; args = c.self.inside.args.items; outputs = c.self.inside.rights.items } in
    let was : IsMade servers params inside made = subst (λ (o : OpenedParts). IsMade servers params o made) (sym c.self.view_is) h in
    let is = output_made servers params inside made was p c.create.new.self c.in-Ok.rights.0 e.write e.here e.quiet c.in-Ok.rights.1 e.read c.requires.mode e.made e.places in
    let args = c.push_reserved-3.ensures.items in
    let outputs = c.push_reserved.ensures.items in
    subst (λ (o : OpenedParts). IsMade servers (params ++ p ∷ []) o (with_output made p.ty))
    (λ i. record { store = c.create.new.self; args = sym args i; outputs = sym outputs i }) is
