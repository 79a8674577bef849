use Rattle.tw_machine.proofs.Names.{Contains, FitsType, Members, given_kind, members_by, subst, sym}
use Rattle.tw_machine.proofs.InputData.{numbered_fit}
use Rattle.tw_machine.proofs.opened.add_container.Goals as goal

pub add_closed-requires-clause-fits : goal.add_closed-requires-clause-fits
add_closed-requires-clause-fits g c =
    let by = given_kind c.args.ty g.K.AsValue.scalar g.V.AsValue.scalar (members_by g.K.AsValue.value g.V.AsValue.value c.args.members.now) c.requires.fits in
    subst (λ (m : Members). FitsType c.args.ty (Contains m)) (sym c.in_ok-numbers.ensures)
    (numbered_fit g.K.AsValue.value g.V.AsValue.value g.K.AsValue.scalar g.met.K.AsValue.of_scalar c.args.ty by _ c.args.members.now)
