use Rattle.tw_host.proofs.Names.{Is, WakesOne, WakesOwn, true, ℕ, ◌<◌, ◌≡◌, ◌≤◌, ◌⊎◌}
use Rattle.tw_host.proofs.sleepers.Sleepers.due_among.Given as goal

abbrev pub invariant-loop-index : goal.invariant-loop-index
invariant-loop-index l = record {
  own : WakesOwn l.pool l.self.asleep l.due l.from l.index;
  left : (l.left ≡ l.task) ⊎ WakesOne l.self.asleep l.due l.from l.index;
  one : l.left ≡ true → (i : ℕ) → l.from ≤ i → i < l.index → Is l.self.asleep i → Is l.due i;
}
