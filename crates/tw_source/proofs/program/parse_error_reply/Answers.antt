use Rattle.std.proofs.Common.{◌≢◌, ◌∙◌, ◌++◌, List, ℕ, ap}
use Rattle.tw_source.proofs.ReplyNames.{IfOk-weaker, PrintsNone, Refused, Reply, reply}
use Rattle.tw_source.specs.Failure.{failure_line}
use Rattle.tw_source.specs.declared.program.NoProgram.TheVariants.{NoMemory}
use Rattle.tw_source.proofs.program.parse_error_reply.Goals as goal

pub returns : goal.returns
returns c =
    let why = c.args.why.now in
    let failure = c.in_ok-failure.failure in
    let is = c.in_ok-failure.ensures in
    let more = c.in_ok-details.details.lines.items in
    IfOk-weaker c.reply_after.result _ (λ (r : Reply). (why ≢ NoMemory) × PrintsNone why (reply r.text.items r.close))
    (λ (r : Reply) h. (
      is.0,
      (
        failure,
        more,
        is.1,
        c.in_ok-details.ensures,
        h ∙ ap (λ (t : List ℕ). reply (t ++ more) (Refused failure)) c.in_ok-put_failure_line.ensures
            ∙ ap (λ (t : List ℕ). reply ((t ++ failure_line failure) ++ more) (Refused failure)) c.new-text.ensures.items,
      ),
    )) c.reply_after.ensures
