use Rattle.tw_rules.proofs.Names.{Contains, get, is_some, length, rules_in, true, ℕ, ◌≡◌}
use Rattle.tw_rules.proofs.agenda.trim_releases.Given as goal

abbrev pub invariant-loop-number : goal.invariant-loop-number
invariant-loop-number l = record {
  sound : (number : ℕ) → Contains l.releases.numbers number → Contains l.initial.releases.numbers number;
  kept : (number : ℕ) → Contains l.initial.releases.numbers number → is_some (get (rules_in l.rules.entries) number) ≡ true → Contains l.releases.numbers number;
  promised : l.releases.promised ≡ l.initial.releases.promised;
  room : l.initial.releases.has_room ≡ true → l.releases.has_room ≡ true;
}

abbrev pub decreases-loop-number : goal.decreases-loop-number
decreases-loop-number l = length l.releases.numbers
