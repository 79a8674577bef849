-- Iteration over a list, with a count.
use Rattle.std.proofs.Common.{[], ◌≡◌, ℕ, zero, suc, List, ◌∷◌, ◌++◌, map, take, sym, ap, subst}
use Rattle.std.specs.Prelude.{Some, slice_get}

module _ {X Y : Type 0} (f : X → Y) where
  -- one more element from the start
  pub taken_next : (xs : List X) (k n : ℕ) (x : X) → n ≡ suc k → slice_get xs k ≡ Some x → map f (take n xs) ≡ map f (take k xs) ++ f x ∷ []
  taken_next xs k n x more e = subst (λ m. map f (take m xs) ≡ map f (take k xs) ++ f x ∷ []) (sym more) (by xs k e)
    where
      by : (xs : List X) (k : ℕ) → slice_get xs k ≡ Some x → map f (take (suc k) xs) ≡ map f (take k xs) ++ f x ∷ []
      by [] k e = cc
      by (y ∷ xs) zero e = let same : y ≡ x = cc in ap (λ z. f z ∷ []) same
      by (y ∷ xs) (suc k) e = ap (λ zs. f y ∷ zs) (by xs k e)
