-- Kinds and targets that are the same.
use Rattle.tw_machine.proofs.Names.{Control, IsTotalOrder, Kind, Leaf, None, Option, Some, ap, comparing, nat_cmp, nat_cmp-IsAntisymmetric, own_key, refl, rules, same_kind, same_target, target_cmp, tied, true, ℕ, ◌≡◌}

target_cmp_total : IsTotalOrder target_cmp
target_cmp_total = search (comparing, rules)

pub own_target : (target : Option ℕ) → same_target target target ≡ true
own_target target = own_key target_cmp_total target

pub target_is : (target other : Option ℕ) → same_target target other ≡ true → target ≡ other
target_is None None e = refl
target_is None (Some n) e = cc
target_is (Some n) None e = cc
target_is (Some n) (Some m) e = ap Some (nat_cmp-IsAntisymmetric n m (tied (nat_cmp n m) e))

pub own_kind : (kind : Kind) → same_kind kind kind ≡ true
own_kind Control = refl
own_kind Leaf = refl

pub kind_is : (kind other : Kind) → same_kind kind other ≡ true → kind ≡ other
kind_is Control Control e = refl
kind_is Control Leaf e = cc
kind_is Leaf Control e = cc
kind_is Leaf Leaf e = refl
