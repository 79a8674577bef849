use Rattle.tw_handles.proofs.Names.{map, pos, range_with_len, ◌≡◌}
use Rattle.tw_handles.proofs.lists.counted.Given as goal

abbrev pub invariant-loop-index : goal.invariant-loop-index
invariant-loop-index l = l.numbers.items ≡ map pos (range_with_len 0 l.index)
