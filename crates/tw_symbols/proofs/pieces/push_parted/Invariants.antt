use Rattle.tw_symbols.proofs.TextNames.{[], pieces_after, pieces_left, texts, ◌++◌, ◌≡◌, ◌≤◌}
use Rattle.tw_symbols.proofs.pieces.push_parted.Given as goal

abbrev pub invariant-loop-index : goal.invariant-loop-index
invariant-loop-index l = record {
  low : l.start ≤ l.index;
  so_far : texts l.out.items ++ pieces_left l.word l.start l.index ≡ texts l.fn.out.items ++ pieces_after [] l.word;
}
