use Rattle.std.proofs.Common.{◌++◌, ◌∙◌, ℕ, List, ap, append_assoc}
use Rattle.tw_run_output.proofs.RunNames.{on_ok_weaker, text_of}
use Rattle.tw_run_output.specs.Run.{limit_details}
use Rattle.tw_run_output.proofs.ended.put_run_report.Goals as goal

pub returns : goal.returns
returns c =
    let old = c.args.out.now.items in
    let printed = c.in_ok-printed.printed.items in
    let more = limit_details (text_of c.args.source.now) c.args.order.now c.args.closing in
    let put = c.in_ok-put_bytes.ensures ∙ ap (λ (t : List ℕ). old ++ t) c.deref.ensures.value in
    on_ok_weaker c.put_limit.result (λ added. (printed, c.in_ok-printed.ensures, added ∙ ap (λ (t : List ℕ). t ++ more) put ∙ append_assoc old printed more)) c.put_limit.ensures
