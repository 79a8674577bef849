use Rattle.std.proofs.Common.{◌+◌, ℕ, ap, arith}
use Rattle.tw_handles.proofs.Tasks.{all_counted, at_most_one, one_more}
use Rattle.tw_handles.proofs.meter.tasks_in.Goals as goal

pub returns : goal.returns
returns c = all_counted c.args.history.now.events c.loop-index.index c.loop-index.tasks (rw (← c.len-index-end.ensures) c.loop-index-test.false) c.loop-index.invariant.tasks

pub loop-index-preserved : goal.loop-index-preserved
loop-index-preserved c =
    let counted = c.tasks_by-tasks.ensures in
    record {
      tasks = one_more c.args.history.now.events c.loop-index.index c.event.result c.loop-index.tasks _ c.loop-index.invariant.tasks c.event.ensures (ap (λ (n : ℕ). c.loop-index.tasks + n) counted);
      small = omega (arith, c.loop-index.invariant.small, counted, at_most_one c.event.result);
    }
