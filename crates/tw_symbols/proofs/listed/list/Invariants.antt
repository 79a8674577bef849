use Rattle.tw_symbols.proofs.TextNames.{length, names_after_list, seen_names, seen_procedures, texts, ◌+◌, ◌≡◌, ◌≤◌}
use Rattle.tw_symbols.proofs.listed.list.Given as goal

abbrev pub invariant-loop-rest : goal.invariant-loop-rest
invariant-loop-rest l = record {
  values : l.values + length l.rest ≤ l.first + length l.words;
  rights : l.rights + length l.rest ≤ length l.words;
  so_far : names_after_list (seen_procedures l.procedures) l.listed (seen_names l.names) l.values l.rights (texts l.rest) ≡ names_after_list (seen_procedures l.procedures) l.listed (seen_names l.fn.names) l.first 0 (texts l.words);
}

abbrev pub decreases-loop-rest : goal.decreases-loop-rest
decreases-loop-rest l = length l.rest
