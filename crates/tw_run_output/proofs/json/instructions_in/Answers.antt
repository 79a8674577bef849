use Rattle.std.proofs.Common.{◌+◌, ◌∙◌, ℕ, ap, arith}
use Rattle.tw_run_output.proofs.Instructions.{all_counted, one_more}
use Rattle.tw_run_output.proofs.json.instructions_in.Goals as goal

pub returns-clause-is : goal.returns-clause-is
returns-clause-is c = all_counted c.args.history.now.events c.loop-index.index c.loop-index.sum (rw (← c.len-index-end.ensures) c.loop-index-test.false) c.loop-index.invariant.sum

pub loop-index-preserved : goal.loop-index-preserved
loop-index-preserved c =
    let counted = c.from-sum.ensures ∙ c.instructions_by.ensures in
    record {
      sum = one_more c.args.history.now.events c.loop-index.index c.event.result c.loop-index.sum _ c.loop-index.invariant.sum c.event.ensures (ap (λ (n : ℕ). c.loop-index.sum + n) counted);
      small = omega (arith, c.loop-index.invariant.small, c.from-sum.ensures, c.instructions_by.type_inv);
    }
