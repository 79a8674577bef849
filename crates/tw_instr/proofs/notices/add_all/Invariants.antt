use Rattle.tw_instr.proofs.Names.{Notice, is_among, is_in, take, ◌||◌, ◌≡◌}
use Rattle.tw_instr.proofs.notices.add_all.Given as goal

abbrev pub invariant-loop-key : goal.invariant-loop-key
invariant-loop-key l = (n : Notice) → is_in l.keys n ≡ (is_among (take l.key-index l.more) n || is_in l.fn.keys n)
