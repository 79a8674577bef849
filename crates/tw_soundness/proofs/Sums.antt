-- Sums over a finite map of a state, with one entry removed, replaced or new.
use Rattle.std.proofs.Common.{◌≡◌, ℕ, ◌+◌, Bool, true, false, Some, None, refl, sym, subst, arith, nat_cmp}
use Rattle.tw_soundness.proofs.MachineNames.{Data, FinMap, IsAntisymmetric, IsTotalOrder, Ordering, get, insert, nat_cmp-IsAntisymmetric, nat_cmp_total, part, remove, times_subscribed, total, total-insert, total-le, total-remove}

module _ {K X : Type 0} (R : K → K → Ordering) (o : IsTotalOrder R) (same : IsAntisymmetric R) where
  -- a sum with one entry taken apart
  pub sum_apart : (g : X → ℕ) (m : FinMap R X) (k : K) (x : X) → get m k ≡ Some x → g x + total g (remove m k) ≡ total g m
  sum_apart g m k x is =
      let h : total g (remove m k) + part g (Some x) ≡ total g m = subst (λ z. total g (remove m k) + part g z ≡ total g m) is (total-remove R o same g m k) in
      omega arith

  -- with another in its place
  pub sum_replaced : (g : X → ℕ) (m : FinMap R X) (k : K) (x y : X) → get m k ≡ Some x → total g (insert m k y) + g x ≡ g y + total g m
  sum_replaced g m k x y is =
      let h : total g (insert m k y) + part g (Some x) ≡ total g m + g y = subst (λ z. total g (insert m k y) + part g z ≡ total g m + g y) is (total-insert R o g m k y) in
      omega arith

  -- with one more
  pub sum_new : (g : X → ℕ) (m : FinMap R X) (k : K) (y : X) → get m k ≡ None → total g (insert m k y) ≡ g y + total g m
  sum_new g m k y is =
      let h : total g (insert m k y) + part g None ≡ total g m + g y = subst (λ z. total g (insert m k y) + part g z ≡ total g m + g y) is (total-insert R o g m k y) in
      omega arith

  -- a sum is another where each part is
  pub total_same : (f : X → ℕ) (m n : FinMap R X) → ((q : K) → part f (get m q) ≡ part f (get n q)) → total f m ≡ total f n
  total_same f m n h =
      let there = total-le o same f m n (λ q. let e = h q in omega arith) in
      let back = total-le o same f n m (λ q. let e = h q in omega arith) in
      omega arith

pub same_bool : (a b : Bool) → (a ≡ true → b ≡ true) → (b ≡ true → a ≡ true) → a ≡ b
same_bool true b f g = sym (f refl)
same_bool false true f g = g refl
same_bool false false f g = refl

pub subscribed_same : (rule parameter : ℕ) (m n : Data) → ((d : ℕ) → part (times_subscribed rule parameter) (get n d) ≡ part (times_subscribed rule parameter) (get m d)) → total (times_subscribed rule parameter) n ≡ total (times_subscribed rule parameter) m
subscribed_same rule parameter m n h = total_same nat_cmp nat_cmp_total nat_cmp-IsAntisymmetric (times_subscribed rule parameter) n m h
