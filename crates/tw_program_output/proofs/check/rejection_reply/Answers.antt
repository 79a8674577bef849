use Rattle.tw_program_output.proofs.ReplyNames.{Failure, IfOk-weaker, List, Refused, RepliesByRejection, Reply, after, ap, append_assoc, failure_line, rejection, reply, text_of, verify_error_code, ℕ, ◌++◌, ◌∙◌, ◌≡◌}
use Rattle.tw_program_output.proofs.Places.{placed}
use Rattle.tw_program_output.proofs.check.rejection_reply.Goals as goal

pub returns : goal.returns
returns c =
    let refused = c.args.refused.now in
    let before = c.in_ok-text.text.items in
    let at = c.in_ok-line.line in
    let more = c.in_ok-details.details.lines.items in
    let is = rejection refused.no refused.procedure refused.place at in
    let line = failure_line is in
    let at_is = c.in_ok-line.ensures (placed c.args.source.now refused.program.procedures (verify_error_code refused.no) refused.procedure refused.place c.requires.source c.requires.first) in
    let first : c.put_failure_line.new.out.items ≡ before ++ line = c.in_ok-put_failure_line.ensures ∙ ap (λ (f : Failure). before ++ failure_line f) c.failure_at-failure.ensures in
    let failure = c.failure_at-failure.ensures ∙ ap (λ (n : ℕ). after n is) (c.len-before.ensures ∙ c.in_ok-text.text.ok.0) in
    IfOk-weaker c.reply_after.result _ (λ (r : Reply). RepliesByRejection c.args.places (text_of c.args.source.now) refused.program.procedures (reply r.text.items r.close))
    (λ (r : Reply) h. (
      refused.no,
      refused.procedure,
      refused.place,
      at,
      before,
      more,
      c.requires.first,
      at_is,
      c.in_ok-text.ensures,
      c.in_ok-details.ensures,
      h ∙ ap (λ (t : List ℕ). reply (t ++ more) (Refused c.failure_at-failure.result)) first ∙ ap (λ (t : List ℕ). reply t (Refused c.failure_at-failure.result)) (append_assoc before line more)
          ∙ ap (λ (f : Failure). reply (before ++ (line ++ more)) (Refused f)) failure,
    )) c.reply_after.ensures
