use Rattle.tw_instr.proofs.Names.{Notice, false, is_among, is_in, map, notice_to, take, true, ◌||◌, ◌≡◌}
use Rattle.tw_instr.proofs.notices.missing.Given as goal

abbrev pub invariant-loop-subscriber : goal.invariant-loop-subscriber
invariant-loop-subscriber l = record {
  apart : (n : Notice) → is_among l.more.items n ≡ true → is_in l.keys n ≡ false;
  all : (n : Notice) → (is_among l.more.items n || is_in l.keys n) ≡ (is_among (map (notice_to l.id) (take l.subscriber-index l.subscribers)) n || is_in l.keys n);
}
