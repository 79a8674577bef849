use Rattle.tw_machine.proofs.Names.{AreBelow, State, ap, opening_bound, subst, sym}
use Rattle.tw_machine.specs.PlainView.{PlainView}
use Rattle.tw_machine.proofs.Parameters.{is_small, opened_as}
use Rattle.tw_machine.proofs.plain.Plain.open.Goals as goal

pub returns-in-Ok-clause-opened : goal.returns-in-Ok-clause-opened
returns-in-Ok-clause-opened c =
    let same = opened_as c.args.program.procedures c.procedures-2.result.now c.main_params.result.now c.args.inputs.now c.in-Ok.state c.procedures-2.ensures.is c.main_params.ensures c.in-Ok.ensures in
    let P : State → PlainView = λ s. record { version = c.args.program.version; program = c.args.program.procedures; layout = c.args.layout; state = s } in
    ap P same

pub returns-in-Ok-clause-below : goal.returns-in-Ok-clause-below
returns-in-Ok-clause-below c =
    let same = opened_as c.args.program.procedures c.procedures-2.result.now c.main_params.result.now c.args.inputs.now c.in-Ok.state c.procedures-2.ensures.is c.main_params.ensures c.in-Ok.ensures in
    subst (λ (s : State). AreBelow opening_bound s) (sym same) (is_small c.args.program.procedures c.procedures.result.now c.args.inputs.now c.procedures.ensures.is c.in_default.ensures c.procedures.ensures.within)
