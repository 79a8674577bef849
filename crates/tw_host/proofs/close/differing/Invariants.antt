use Rattle.std.proofs.Common.{◌≡◌, length, map}
use Rattle.tw_host.proofs.Comparing.{Found}
use Rattle.tw_host.proofs.close.differing.Given as goal

abbrev pub invariant-loop-k : goal.invariant-loop-k
invariant-loop-k g l = record {
  places : length l.found ≡ 24;
  are : Found l.layout l.history.events (map (λ s. s.events.items) l.seats) l.found l.k;
}
