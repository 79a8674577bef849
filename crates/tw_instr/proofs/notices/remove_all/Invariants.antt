use Rattle.tw_instr.proofs.Names.{Notice, is_among, is_in, not, take, ◌&&◌, ◌≡◌}
use Rattle.tw_instr.proofs.notices.remove_all.Given as goal

abbrev pub invariant-loop-key : goal.invariant-loop-key
invariant-loop-key l = (n : Notice) → is_in l.keys n ≡ (not (is_among (take l.key-index l.more) n) && is_in l.fn.keys n)
