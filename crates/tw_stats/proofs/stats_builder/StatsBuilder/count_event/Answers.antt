use Rattle.std.proofs.Common.{arith, ℕ, subst, sym}
use Rattle.tw_stats.specs.Sums.{AreChains}
use Rattle.tw_stats.proofs.stats_builder.StatsBuilder.count_event.Goals as goal

pub returns : goal.returns
returns c = λ h. record {
  fits = omega (arith, c.in_ok-add.ensures.steps);
  counts = c.in_ok-add.ensures.sums c.share_of-share.ensures h.counts;
  chains = subst (λ (n : ℕ). AreChains c.add-3.new.self n) (sym c.in_ok-add.ensures.steps) (c.in_ok-add-3.ensures c.args.self.now.counts.steps h.fits h.chains);
}
