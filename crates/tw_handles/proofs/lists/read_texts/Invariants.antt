use Rattle.tw_handles.proofs.Names.{AreTextsTo, map, range_with_len, text_in, ◌≡◌}
use Rattle.tw_handles.proofs.lists.read_texts.Given as goal

-- those before this one are texts, and are read
abbrev pub invariant-loop-index : goal.invariant-loop-index
invariant-loop-index l = AreTextsTo l.bytes l.ends l.index × (l.texts.items ≡ map (text_in l.bytes l.ends) (range_with_len 0 l.index))
