use Rattle.tw_report.proofs.Names.{drop, get, length, nat_cmp, option_and_then, slice_get, writer_of, ℕ, ◌-◌, ◌≡◌}
use Rattle.tw_report.proofs.walk.first_writers.Given as goal

abbrev pub invariant-loop-done : goal.invariant-loop-done
invariant-loop-done l = (n : ℕ) → option_and_then (slice_get l.rules) (get nat_cmp l.found n) ≡ writer_of n (drop (length l.rules - l.done) l.rules)
