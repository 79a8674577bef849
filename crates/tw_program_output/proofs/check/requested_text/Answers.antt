use Rattle.tw_program_output.proofs.ReplyNames.{Global, IfOk-weaker, IsPrinted, Vec, ℕ}
use Rattle.tw_program_output.proofs.check.requested_text.Goals as goal

pub returns : goal.returns
returns c =
    IfOk-weaker c.answer_in_form.result _ (λ (t : Vec ℕ Global). IsPrinted c.args.order c.args.verified.now.program t.items)
    (λ t is. (c.in_ok-answer.answer, c.in_ok-answer.ensures, is)) c.answer_in_form.ensures
