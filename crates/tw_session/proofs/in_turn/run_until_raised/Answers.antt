use Rattle.tw_session.proofs.SessionNames.{IfOk-weaker, IsLeftIf, opened, true}
use Rattle.tw_in_turn.proofs.Leaves.{left_if}
use Rattle.tw_session.proofs.Ran.{made_as}
use Rattle.tw_session.proofs.in_turn.run_until_raised.Goals as goal

pub returns : goal.returns
returns g c =
    let run = c.args.run.now in
    let options = run.order.options in
    let first = opened run.verified c.as_slice-inputs.result.now options.layout c.events-limit.result in
    made_as c.run_until.result true run c.as_slice-inputs.result.now c.events-limit.result c.as_slice-inputs.ensures c.events-limit.ensures.value c.run_until.ensures.allowed
    (IfOk-weaker c.run_until.result _ (IsLeftIf true options.seed first) (λ left by. left_if options.seed first by.0 left by.2) c.run_until.ensures.left)
    c.run_until.ensures.refused
