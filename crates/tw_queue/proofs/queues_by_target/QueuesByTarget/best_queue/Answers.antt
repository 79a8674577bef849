use Rattle.tw_queue.proofs.Names.{IsUpperBound, false, inl, inr, is_lt, rank_cmp, ranks_at, refl, rules, subst, true, ◌≡◌}
use Rattle.tw_queue.proofs.Order.{not_back, upper_over}
use Rattle.tw_queue.proofs.queues_by_target.QueuesByTarget.best_queue.Goals as goal

pub returns-then-lt : goal.returns-then-lt
returns-then-lt c =
    let own : c.from-own.result ≡ c.args.number = search rules in
    let any = c.in-Some-Some.ensures in
    let first = c.in-Some-Some.ensures' in
    let lower : is_lt (rank_cmp c.in-Some-Some.any c.in-Some-Some.rank) ≡ true = search rules in (
      first.1,
      inr own,
      first.0.0,
      (
        upper_over c.in-Some-Some.rank c.in-Some-Some.any (ranks_at c.args.self.now.queues 16) (not_back c.in-Some-Some.any c.in-Some-Some.rank lower) any.0.1,
        subst (λ p. IsUpperBound rank_cmp c.in-Some-Some.rank (ranks_at c.args.self.now.queues p)) own first.0.1,
      ),
    )

pub returns-else-lt : goal.returns-else-lt
returns-else-lt c =
    let own : c.from-own.result ≡ c.args.number = search rules in
    let any = c.in-Some-Some.ensures in
    let first = c.in-Some-Some.ensures' in
    let higher : is_lt (rank_cmp c.in-Some-Some.any c.in-Some-Some.rank) ≡ false = search rules in (
      any.1,
      inl refl,
      any.0.0,
      (
        any.0.1,
        upper_over c.in-Some-Some.any c.in-Some-Some.rank (ranks_at c.args.self.now.queues c.args.number) higher
            (subst (λ p. IsUpperBound rank_cmp c.in-Some-Some.rank (ranks_at c.args.self.now.queues p)) own first.0.1),
      ),
    )
