use Rattle.tw_program_output.proofs.ReplyNames.{Global, IfOk-weaker, IsCheckText, Vec, ap, check_text, ℕ, ◌∙◌}
use Rattle.tw_program_output.proofs.check.check_text.Goals as goal

pub returns : goal.returns
returns c =
    let order = c.args.order.now in
    let answer = c.args.answer.now in
    let more = c.in_ok-more.more in
    IfOk-weaker c.answer_text.result _ (λ (t : Vec ℕ Global). IsCheckText order answer t.items)
    (λ t e. (more.items, c.in_ok-more.ensures, e ∙ ap (check_text order answer) c.deref.ensures.value)) c.answer_text.ensures
