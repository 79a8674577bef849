use Rattle.std.proofs.Common.{arith}
use Rattle.tw_pool.proofs.Counting.{few}
use Rattle.tw_pool.proofs.submit.count_after.Goals as goal

pub overflow_add-result : goal.overflow_add-result
overflow_add-result c = let low = few c.args.actor c.args.history.now.events in omega (arith, low, c.count-count.ensures, c.requires.few)

pub overflow_add-result-else-steps-eq0 : goal.overflow_add-result-else-steps-eq0
overflow_add-result-else-steps-eq0 c = let low = few c.args.actor c.args.history.now.events in omega (arith, low, c.count-count.ensures, c.requires.few)
