use Rattle.std.proofs.Common.{◌≡◌, ◌+◌, ◌-◌, ◌≤◌, ◌++◌, drop, length}
use Rattle.tw_host.proofs.seat.record_events.Given as goal

abbrev pub invariant-loop-k : goal.invariant-loop-k
invariant-loop-k g l = record {
  events : l.events.items ++ drop l.k l.history.events ≡ l.fn.seat.events.items ++ drop l.before l.history.events;
  room : length l.events.items + (length l.history.events - l.k) ≤ l.events.capacity;
  total : l.book.total + l.before ≡ l.fn.book.total + l.k;
  parts : l.share.parts ≡ 1;
  amount : l.share.amount ≡ length l.events.items;
}
