-- Results of comparisons, and which keys tie.
use Rattle.std.proofs.Common.{◌≡◌, Bool, true, false, refl, ap}
use Rattle.std.specs.declared.cmp.Ordering.{Ordering}
use Rattle.std.specs.declared.cmp.Ordering.TheVariants.{Less, Equal, Greater}
use Rattle.std.specs.Ordering.{eq_by_cmp, is_eq, is_lt}
use Rattle.std.specs.Cmp.{IsTotalOrder, tied_itself}
use Rattle.std.specs.FinMap.{IsAntisymmetric}

pub tied : (r : Ordering) → is_eq r ≡ true → r ≡ Equal
tied Less e = cc
tied Equal e = refl
tied Greater e = cc

pub below : (r : Ordering) → is_lt r ≡ true → r ≡ Less
below Less e = refl
below Equal e = cc
below Greater e = cc

module _ {K : Type 0} {R : K → K → Ordering} where
  pub own_key : IsTotalOrder R → (k : K) → eq_by_cmp R k k ≡ true
  own_key o k = ap is_eq (tied_itself o k)

  pub other_key : IsAntisymmetric R → (q k : K) → (q ≡ k → ⊥) → eq_by_cmp R q k ≡ false
  other_key same q k h = by (eq_by_cmp R q k) refl
    where
      by : (b : Bool) → eq_by_cmp R q k ≡ b → b ≡ false
      by true e = absurd (h (same q k (tied (R q k) e)))
      by false e = refl
