use Rattle.std.proofs.Common.{◌++◌, ◌∙◌, ℕ, List, ap, append_assoc}
use Rattle.tw_run_output.proofs.RunNames.{on_ok_weaker}
use Rattle.tw_run_output.proofs.event_order.put_order.Goals as goal

pub returns : goal.returns
returns c =
    let found = c.in_ok-found.ensures in
    let (lines, are, added) = c.in_ok-put_answer.ensures c.args.verified.program c.requires.source found.there in
    on_ok_weaker c.put_run_details.result
    (λ printed s goes.
    let (more, details, whole) = printed s goes in
    (c.in_ok-found.found, lines, more, found.first, are, details, whole ∙ ap (λ (t : List ℕ). t ++ more) added ∙ append_assoc c.args.out.now.items lines more)) c.put_run_details.ensures
