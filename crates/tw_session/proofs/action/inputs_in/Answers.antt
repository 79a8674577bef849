use Rattle.tw_session.proofs.SessionNames.{Input, List, subst, sym}
use Rattle.tw_inputs.specs.JsonInputs.{AreInputsIn, HasFault}
use Rattle.tw_inputs.specs.declared.json_inputs.NoInputs.{NoInputs}
use Rattle.tw_session.proofs.action.inputs_in.Goals as goal

pub returns-in-Ok : goal.returns-in-Ok
returns-in-Ok c = subst (λ (given : List Input). AreInputsIn c.args.params.now c.args.json.now given) (sym c.from.ensures) c.in-Ok.ensures.read

pub returns-in-Err-At : goal.returns-in-Err-At
returns-in-Err-At c =
    let fault = subst (λ (no : NoInputs). HasFault c.args.params.now c.args.json.now no) c.in-Err-At.field-0-is c.in-Err-At.ensures.fault in
    (c.in-Err-At.place, fault, c.in_ok-reply-in-Err-At.ensures)
