use Rattle.std.proofs.Common.{◌≡◌, ◌≤◌, List, ℕ, length, map}
use denote.Ref.{Bor}
use Rattle.tw_source.proofs.Tables.{count_from, numbers_from}
use Rattle.tw_source.proofs.text_lines.numbers_of.Given as goal

abbrev pub invariant-loop-index : goal.invariant-loop-index
invariant-loop-index l = record {
  next : (goal.iterator-loop-index).can_next l.index-iterator;
  finite : (goal.iterator-loop-index).is_finite l.index-iterator;
  few : l.count ≤ length l.yielded;
  count_is : l.count ≡ count_from 0 (map (λ (item : ℕ × Bor (List ℕ)). item.1.now) l.yielded);
  so_far : l.numbers.items ≡ numbers_from 0 (map (λ (item : ℕ × Bor (List ℕ)). item.1.now) l.yielded);
}
