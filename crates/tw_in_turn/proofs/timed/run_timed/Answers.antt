use Rattle.tw_in_turn.proofs.Names.{IsLeftIf, is_some, opened, subst, sym}
use Rattle.std.proofs.lemmas.Result.{IfOk-weaker}
use Rattle.tw_in_turn.proofs.Leaves.{left_if}
use Rattle.tw_in_turn.proofs.timed.run_timed.Goals as goal

pub returns-in-Some-clause-left : goal.returns-in-Some-clause-left
returns-in-Some-clause-left g c =
    let first = opened c.args.verified.now c.args.inputs.now c.args.layout c.args.limit in
    IfOk-weaker _ _ (IsLeftIf (is_some c.args.seconds) c.args.seed first)
    (λ left by. subst (λ limited. IsLeftIf (is_some limited) c.args.seed first left) (sym c.in-Some.is) (left_if c.args.seed first by.0 left by.2)) c.run_until.ensures.left
