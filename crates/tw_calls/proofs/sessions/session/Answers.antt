use Rattle.std.proofs.Common.{List, ℕ, inl, inr, refl, subst, sym}
use Rattle.tw_source.specs.Reply.{reply}
use Rattle.tw_session.specs.Clockless.{AnswersWords}
use Rattle.tw_source.specs.declared.close.Close.TheVariants.{CommandLine}
use Rattle.tw_session.specs.declared.status.Status.TheVariants.{Ended}
use Rattle.tw_calls.specs.SessionAnswers.{Answers, arguments_in, line_feed}
use Rattle.tw_calls.proofs.sessions.session.Goals as goal

pub returns-in_default : goal.returns-in_default
returns-in_default c = record {
  status = Ended CommandLine;
  text = c.as_bytes.result.now;
  answers = inr (c.in_default.ensures.cases.0, refl, c.as_bytes.ensures.value);
  code_is = c.write_answer.ensures.code;
  count_is = c.write_answer.ensures.count;
  room = c.write_answer.ensures.room;
}

pub returns-in-Ok-answer : goal.returns-in-Ok-answer
returns-in-Ok-answer c =
    let r = c.in-Ok-answer.reply in
    let words = c.in-Ok.ensures.cases in
    let input = c.args.input.now in
    let answered = subst (λ (ws : List ℕ). AnswersWords (arguments_in line_feed ws) input (reply r.text.items r.close)) words.0 c.in-Ok-answer.ensures in
    record {
      status = Ended r.close;
      text = c.as_slice.result.now;
      answers = subst (λ (t : List ℕ). Answers line_feed c.args.words.now input (Ended r.close) t) (sym c.as_slice.ensures.value) (inl (words.1, answered));
      code_is = c.write_answer-in-Ok-answer.ensures.code;
      count_is = c.write_answer-in-Ok-answer.ensures.count;
      room = c.write_answer-in-Ok-answer.ensures.room;
    }
