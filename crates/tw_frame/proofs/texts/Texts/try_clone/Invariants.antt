use Rattle.tw_frame.proofs.Names.{map as each, take, text_in, ◌≡◌}
use Rattle.tw_frame.proofs.texts.Texts.try_clone.Given as goal

abbrev pub invariant-loop-index : goal.invariant-loop-index
invariant-loop-index l = each text_in l.slots.items ≡ take l.index l.self
