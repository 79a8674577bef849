-- The order of ranks.
use Rattle.std.specs.declared.cmp.Ordering.{Ordering}
use Rattle.std.specs.Ordering.{int_cmp, nat_cmp, then_cmp, on, flip_args}
use Rattle.tw_queue.specs.declared.rank.Rank.{Rank}

-- orders ranks by priority, then by falling number; the slot comes last
abbrev pub rank_cmp : Rank → Rank → Ordering
rank_cmp = then_cmp
    (on (λ rank. rank.priority) int_cmp)
    (then_cmp (flip_args (on (λ rank. rank.number) nat_cmp)) (flip_args (on (λ rank. rank.slot) nat_cmp)))
