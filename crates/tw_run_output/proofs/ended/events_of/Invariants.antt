use Rattle.std.proofs.Common.{◌≡◌, take}
use Rattle.tw_run_output.proofs.ended.events_of.Given as goal

abbrev pub invariant-loop-index : goal.invariant-loop-index
invariant-loop-index l = l.events.items ≡ take l.index l.history.events
