-- The order of ranks.
use Rattle.tw_queue.proofs.Names.{Bool, IsStrictWeakOrder, IsTotalOrder, IsUpperBound, List, Rank, [], false, is_lt, rank_cmp, ranks_by, refl, rules, true, ◌∷◌, ◌≡◌}
use Rattle.std.specs.Cmp.Rules.{comparing}

rank_cmp_total : IsTotalOrder rank_cmp
rank_cmp_total = search (comparing, rules)

weak : IsStrictWeakOrder (λ x y. is_lt (rank_cmp x y))
weak = ranks_by rank_cmp_total (λ x. x)

pub not_back : (x y : Rank) → is_lt (rank_cmp x y) ≡ true → is_lt (rank_cmp y x) ≡ false
not_back x y h = weak.one_way x y h

pub not_itself : (x : Rank) → is_lt (rank_cmp x x) ≡ false
not_itself x = by (is_lt (rank_cmp x x)) refl
  where
    by : (b : Bool) → is_lt (rank_cmp x x) ≡ b → is_lt (rank_cmp x x) ≡ false
    by true e = not_back x x e
    by false e = e

pub not_after : (x y z : Rank) → is_lt (rank_cmp x y) ≡ false → is_lt (rank_cmp y z) ≡ false → is_lt (rank_cmp x z) ≡ false
not_after x y z h k = weak.chain x y z h k

-- a rank that isn't below an upper bound is one
pub upper_over : (x y : Rank) (ranks : List Rank) → is_lt (rank_cmp x y) ≡ false → IsUpperBound rank_cmp y ranks → IsUpperBound rank_cmp x ranks
upper_over x y [] h upper = tt
upper_over x y (z ∷ ranks) h upper = (weak.chain x y z h upper.0, upper_over x y ranks h upper.1)
