use Rattle.std.proofs.Common.{arith}
use Rattle.tw_stats.proofs.chains.Chains.new.Goals as goal

pub returns : goal.returns
returns c = λ most. record { longest = omega arith; depths = c.new.ensures most }
