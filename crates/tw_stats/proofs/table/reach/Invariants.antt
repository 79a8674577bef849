use Rattle.std.proofs.Common.{◌≡◌, ℕ, length, slice_index}
use Rattle.tw_stats.specs.Tables.{total}
use Rattle.tw_stats.proofs.table.reach.Given as goal

abbrev pub invariant-loop : goal.invariant-loop
invariant-loop l = record {
  long : length l.items.items ≡ l.counter;
  same : (k : ℕ) → slice_index l.items.items k ≡ slice_index l.initial.items.items k;
  total : total l.items.items ≡ total l.initial.items.items;
}
