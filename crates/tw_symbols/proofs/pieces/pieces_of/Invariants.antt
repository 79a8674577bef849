use Rattle.tw_symbols.proofs.TextNames.{drop, flat_map, pieces, texts, ◌++◌, ◌≡◌}
use Rattle.tw_symbols.proofs.pieces.pieces_of.Given as goal

abbrev pub invariant-loop-word : goal.invariant-loop-word
invariant-loop-word l = texts l.all.items ++ flat_map pieces (texts (drop l.word-index l.words)) ≡ flat_map pieces (texts l.words)
