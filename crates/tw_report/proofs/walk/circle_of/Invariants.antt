use Rattle.tw_report.proofs.Names.{circle_of, contains, is_met, length, nat_cmp, walk, ℕ, ◌-◌, ◌≡◌}
use Rattle.tw_report.proofs.walk.circle_of.Given as goal

abbrev pub invariant-loop-step : goal.invariant-loop-step
invariant-loop-step l = record {
  same : walk (length l.rules - l._step) l.rules l.trail.items l.at ≡ circle_of l.rules;
  met : (n : ℕ) → contains nat_cmp l.met n ≡ is_met n l.trail.items;
}
