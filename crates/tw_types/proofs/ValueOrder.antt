-- The order of values is total, and only equal values tie: finite maps by values need both.
use Rattle.std.proofs.Common.{◌≡◌, ℕ, List, [], ◌∷◌, ap, refl, rules}
use Rattle.std.specs.declared.cmp.Ordering.{Ordering}
use Rattle.std.specs.declared.cmp.Ordering.TheVariants.{Less, Equal, Greater}
use Rattle.std.specs.Cmp.{IsTotalOrder}
use Rattle.std.specs.Cmp.Lexicographic.{slice_cmp}
use Rattle.std.specs.Cmp.Rules.{comparing}
use Rattle.std.specs.FinMap.{IsAntisymmetric, nat_cmp-IsAntisymmetric, int_cmp-IsAntisymmetric}
use Rattle.std.specs.Ordering.{nat_cmp, int_cmp, ordering_then}
use Rattle.tw_types.specs.declared.value.Value.TheVariants.{Int, Text}
use Rattle.tw_types.specs.ValueOrder.{value_cmp}
use Rattle.tw_types.proofs.NoticeOrder.{both_tie}

pub value_cmp_total : IsTotalOrder value_cmp
value_cmp_total = search (comparing, rules)

bytes_tie : (xs ys : List ℕ) → slice_cmp nat_cmp xs ys ≡ Equal → xs ≡ ys
bytes_tie [] [] e = refl
bytes_tie [] (y ∷ ys) e = cc
bytes_tie (x ∷ xs) [] e = cc
bytes_tie (x ∷ xs) (y ∷ ys) e =
    let both = both_tie (nat_cmp x y) (slice_cmp nat_cmp xs ys) e in
    let front : x ≡ y = nat_cmp-IsAntisymmetric x y both.0 in
    let back = bytes_tie xs ys both.1 in
    cc

first_tie : (r : Ordering) → ordering_then r Equal ≡ Equal → r ≡ Equal
first_tie Less e = cc
first_tie Equal e = e
first_tie Greater e = cc

pub value_cmp-IsAntisymmetric : IsAntisymmetric value_cmp
value_cmp-IsAntisymmetric (Int m) (Int n) e = ap Int (int_cmp-IsAntisymmetric m n (first_tie (int_cmp m n) e))
value_cmp-IsAntisymmetric (Int m) (Text n) e = cc
value_cmp-IsAntisymmetric (Text m) (Int n) e = cc
value_cmp-IsAntisymmetric (Text m) (Text n) e = ap Text (bytes_tie m n e)
