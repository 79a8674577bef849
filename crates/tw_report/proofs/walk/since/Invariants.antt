use Rattle.tw_report.proofs.Names.{drop, since, ◌≡◌}
use Rattle.tw_report.proofs.walk.since.Given as goal

abbrev pub invariant-loop-index : goal.invariant-loop-index
invariant-loop-index l = since l.rule (drop l.index l.trail) ≡ since l.rule l.trail
