-- The order in which waiting tasks are taken.
use Rattle.std.specs.Prelude.{ℕ}
use Rattle.std.specs.declared.cmp.Ordering.{Ordering}
use Rattle.std.specs.Ordering.{flip_args, int_cmp, nat_cmp, on, then_cmp}
use Rattle.tw_types.specs.Task.{Task}
use Rattle.tw_machine.specs.declared.rank.Rank.{Rank}

-- orders ranks by falling priority, then by number
abbrev pub rank_cmp : Rank → Rank → Ordering
rank_cmp = then_cmp (flip_args (on (λ rank. rank.priority) int_cmp)) (on (λ rank. rank.number) nat_cmp)

abbrev pub rank_of : ℕ → Task → Rank
rank_of number task = record { priority = task.priority; number = number }
