use Rattle.tw_report.proofs.Names.{HasNoLineFeed, take, ◌≡◌}
use Rattle.tw_report.proofs.history.first_line.Given as goal

abbrev pub invariant-loop-byte : goal.invariant-loop-byte
invariant-loop-byte l = record {
  count : l.count ≡ l.byte-index;
  none : HasNoLineFeed (take l.byte-index l.text);
}
