use Rattle.tw_rules.proofs.Names.{from_first, is_askable, length, rules_in, true, ◌≡◌}
use Rattle.tw_rules.proofs.agenda.trim_asks.Given as goal

abbrev pub invariant-loop-number : goal.invariant-loop-number
invariant-loop-number l = record {
  numbers : from_first (is_askable (rules_in l.rules.entries)) l.asks.numbers ≡ from_first (is_askable (rules_in l.rules.entries)) l.initial.asks.numbers;
  room : l.initial.asks.has_room ≡ true → l.asks.has_room ≡ true;
}

abbrev pub decreases-loop-number : goal.decreases-loop-number
decreases-loop-number l = length l.asks.numbers
