use Rattle.tw_symbols.proofs.TextNames.{bank_of_mode, drop, filter_map, texts, ◌++◌, ◌≡◌}
use Rattle.tw_symbols.proofs.heads.banks_of_modes.Given as goal

abbrev pub invariant-loop-word : goal.invariant-loop-word
invariant-loop-word l = l.banks.items ++ filter_map bank_of_mode (texts (drop l.word-index l.words)) ≡ filter_map bank_of_mode (texts l.words)
