use Rattle.std.proofs.Common.{◌++◌, ◌∙◌, ℕ, List, ap}
use Rattle.tw_run_output.proofs.RunNames.{on_ok_weaker}
use Rattle.tw_run_output.proofs.ended.put_order_json.Goals as goal

pub returns : goal.returns
returns c =
    let line = c.in_ok-line.ensures in
    on_ok_weaker c.put_bytes.result
    (λ added. (line.0, line.1, line.2, line.3, added ∙ ap (λ (t : List ℕ). c.args.out.now.items ++ t) (c.as_bytes.ensures.value ∙ line.4))) c.put_bytes.ensures
