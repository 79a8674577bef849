use Rattle.std.proofs.Common.{◌++◌, ◌∙◌, ℕ, List, ap, string_bytes}
use Rattle.tw_run_output.proofs.RunNames.{on_ok_weaker}
use Rattle.tw_run_output.proofs.ended.put_json.Goals as goal

pub returns : goal.returns
returns c =
    on_ok_weaker c.put_bytes.result
    (λ added. (string_bytes c.in_ok-line.line, c.in_ok-line.ensures, added ∙ ap (λ (t : List ℕ). c.args.out.now.items ++ t) c.as_bytes.ensures.value)) c.put_bytes.ensures
