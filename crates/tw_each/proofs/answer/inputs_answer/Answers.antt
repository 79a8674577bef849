use Rattle.tw_each.proofs.Names.{IfOk-weaker, IsInputsAnswer, inl, string_bytes, way}
use Rattle.tw_each.proofs.answer.inputs_answer.Goals as goal

pub returns-in-Ok : goal.returns-in-Ok
returns-in-Ok g c =
    IfOk-weaker _ _ (λ answer. IsInputsAnswer (way c.args.run.now) c.args.inputs.now (string_bytes answer.line) answer.end)
    (λ answer made. inl (c.in-Ok.ensures.allowed, (c.in-Ok.left, c.in-Ok.ensures.left, made))) c.left_line.ensures
