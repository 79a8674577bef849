use Rattle.tw_rules.proofs.Names.{IsPermutation, entries, erasure, hash_map_len, map, rules_in, vec_capacity, vec_len, ◌++◌, ◌+◌, ◌≤◌}
use Rattle.tw_rules.proofs.table.RuleTable.spend_all.Given as goal

abbrev pub invariant-loop-number : goal.invariant-loop-number
invariant-loop-number l = record {
  whole : IsPermutation (map erasure (entries (rules_in l.initial.rules.entries))) (l.erasure.items ++ map erasure (entries (rules_in l.rules.entries)));
  room : hash_map_len l.rules + vec_len l.erasure ≤ vec_capacity l.erasure;
}

abbrev pub decreases-loop-number : goal.decreases-loop-number
decreases-loop-number l = hash_map_len l.rules
