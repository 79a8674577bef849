use Rattle.std.proofs.Common.{arith}
use Rattle.tw_stats.proofs.depths.Depths.deepest.Goals as goal

pub returns : goal.returns
returns c = λ most within. omega (arith, c.at_most_one.ensures most within, c.at_most_one-2.ensures most within)
