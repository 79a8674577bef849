use Rattle.tw_each.proofs.Names.{IfOk-weaker, IsAnswer, IsInputsAnswer, List, inl, inr, string_bytes, subst, way}
use Rattle.tw_types.specs.declared.input.Input.{Input}
use Rattle.tw_each.proofs.answer.line_answer.Goals as goal

pub returns-in-Ok : goal.returns-in-Ok
returns-in-Ok g c =
    let w = way c.args.run.now in
    let inputs = c.in-Ok.inputs.items in
    IfOk-weaker _ _ (λ answer. IsAnswer w c.args.text.now (string_bytes answer.line) answer.end)
    (λ answer h. inl (inputs, (rw c.in-Ok.is at c.requires), subst (λ (given : List Input). IsInputsAnswer w given (string_bytes answer.line) answer.end) c.deref.ensures.value h)) c.inputs_answer.ensures

pub returns-in-Err : goal.returns-in-Err
returns-in-Err g c =
    IfOk-weaker _ _ (λ answer. IsAnswer (way c.args.run.now) c.args.text.now (string_bytes answer.line) answer.end)
    (λ answer h. inr (c.in-Err.place, (rw c.in-Err.is at c.requires), h)) c.fault_answer.ensures
