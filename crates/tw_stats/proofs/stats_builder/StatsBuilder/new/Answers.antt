use Rattle.std.proofs.Common.{arith}
use Rattle.tw_stats.proofs.stats_builder.StatsBuilder.new.Goals as goal

pub returns : goal.returns
returns c = record { fits = omega (arith, c.new.ensures.none); counts = c.new.ensures.sums; chains = c.new-4.ensures _ }
