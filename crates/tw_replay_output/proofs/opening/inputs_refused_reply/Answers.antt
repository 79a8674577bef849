use Rattle.std.proofs.Common.{◌≡◌, ◌++◌, ◌∙◌, List, ap, ℕ}
use Rattle.tw_source.specs.Failure.{failure_line}
use Rattle.tw_source.specs.declared.failure.Failure.{Failure}
use Rattle.tw_source.specs.declared.failure.Position.TheVariants as position
use Rattle.tw_replay_output.proofs.ReplayNames.{Refused, coded, reply, text_of}
use Rattle.tw_replay_output.proofs.Behinds.{same_first_line}
use Rattle.tw_replay_output.proofs.opening.inputs_refused_reply.Goals as goal

pub returns : goal.returns
returns c =
    let number = c.args.number in
    let at = c.in_ok-position.position in
    let details = c.in_ok-position.ensures in
    let more = details.0 in
    let line = failure_line (coded 79 number at) in
    let first : c.put_failure_line.new.out.items ≡ failure_line (coded 79 number position.Nowhere) =
    c.in_ok-put_failure_line.ensures ∙ ap (λ (t : List ℕ). t ++ failure_line c.opening_failure.result) c.new-text.ensures.items ∙ ap failure_line c.opening_failure.ensures in
    let same = same_first_line (text_of c.args.source.now) c.args.program.now c.args.inputs.now number at more details.1 in
    let all = details.2 ∙ ap (λ (t : List ℕ). t ++ more) (first ∙ same) in (
      at,
      more,
      details.1,
      c.refused_by.ensures ∙ ap (λ (t : List ℕ). reply t (Refused c.opening_failure-2.result)) all ∙ ap (λ (f : Failure). reply (line ++ more) (Refused f)) c.opening_failure-2.ensures,
    )
