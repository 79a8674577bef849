-- The order of ranks, and which ranks tie.
use Rattle.tw_machine.proofs.Names.{Bool, Equal, Greater, IsStrictWeakOrder, IsTotalOrder, Less, Ordering, Rank, Task, ap, comparing, eq_by_cmp, false, int_cmp, int_cmp-IsAntisymmetric, is_eq, is_gt, is_lt, nat_cmp, nat_cmp-IsAntisymmetric, nat_cmp_total, ordering_reverse, ordering_then, own_key, rank_cmp, rank_of, refl, rules, subst, sym, tied, true, ℕ, ◌∙◌, ◌≡◌}
use Rattle.std.proofs.lemmas.List.Sorted.{ranks_by}

pub rank_cmp_total : IsTotalOrder rank_cmp
rank_cmp_total = search (comparing, rules)

weak : IsStrictWeakOrder (λ x y. is_lt (rank_cmp x y))
weak = ranks_by rank_cmp_total (λ x. x)

first_ties : (r s : Ordering) → is_eq (ordering_then r s) ≡ true → r ≡ Equal
first_ties Less s e = cc
first_ties Equal s e = refl
first_ties Greater s e = cc

second_ties : (r s : Ordering) → is_eq (ordering_then r s) ≡ true → s ≡ Equal
second_ties Less s e = cc
second_ties Equal s e = tied s e
second_ties Greater s e = cc

pub same_priority : (q k : Rank) → is_eq (rank_cmp q k) ≡ true → k.priority ≡ q.priority
same_priority q k e = int_cmp-IsAntisymmetric k.priority q.priority (first_ties (int_cmp k.priority q.priority) (nat_cmp q.number k.number) e)

pub same_number : (q k : Rank) → is_eq (rank_cmp q k) ≡ true → q.number ≡ k.number
same_number q k e = nat_cmp-IsAntisymmetric q.number k.number (second_ties (int_cmp k.priority q.priority) (nat_cmp q.number k.number) e)

-- ranks of tasks with other numbers don't tie
pub other_number : (n : ℕ) (task : Task) (r : Rank) → eq_by_cmp nat_cmp r.number n ≡ false → eq_by_cmp rank_cmp (rank_of n task) r ≡ false
other_number n task r apart = by (eq_by_cmp rank_cmp (rank_of n task) r) refl
  where
    by : (b : Bool) → eq_by_cmp rank_cmp (rank_of n task) r ≡ b → b ≡ false
    by true e =
        let same : n ≡ r.number = same_number (rank_of n task) r e in
        let itself : eq_by_cmp nat_cmp r.number n ≡ true = subst (λ (m : ℕ). eq_by_cmp nat_cmp r.number m ≡ true) (sym same) (own_key nat_cmp_total r.number) in
        cc
    by false e = refl

-- ---- ranks that aren't before another

pub not_before_first : (first second rank : Rank) → is_lt (rank_cmp first second) ≡ true → is_lt (rank_cmp rank second) ≡ false → is_lt (rank_cmp rank first) ≡ false
not_before_first first second rank below later = weak.chain rank second first later (weak.one_way first second below)

pub not_before_other : (one other rank : Rank) → is_lt (rank_cmp other one) ≡ false → is_lt (rank_cmp rank other) ≡ false → is_lt (rank_cmp rank one) ≡ false
not_before_other one other rank above later = weak.chain rank other one later above

turned : (r : Ordering) → is_gt r ≡ false → is_lt (ordering_reverse r) ≡ false
turned Less e = refl
turned Equal e = refl
turned Greater e = cc

pub not_after : (first rank : Rank) → is_gt (rank_cmp first rank) ≡ false → is_lt (rank_cmp rank first) ≡ false
not_after first rank e = ap is_lt (rank_cmp_total.antisymm rank first) ∙ turned (rank_cmp first rank) e
