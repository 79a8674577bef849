use Rattle.tw_frame.proofs.Names.{[], map as each, replicate, text_in, ◌≡◌}
use Rattle.tw_frame.proofs.texts.Texts.blank.Given as goal

abbrev pub invariant-loop-index : goal.invariant-loop-index
invariant-loop-index l = each text_in l.slots.items ≡ replicate l._index []
