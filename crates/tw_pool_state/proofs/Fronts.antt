-- A queue without a first notice is empty.
use Rattle.tw_pool_state.proofs.PartNames.{Bor, List, None, Option, Some, [], false, is_some, option_copied, refl, slice_get, ◌∷◌, ◌≡◌}
use Rattle.tw_pool_state.proofs.Maps.{none_copied}

pub empty_front : {A : Type 0} (r : Option (Bor A)) (xs : List A) → option_copied r ≡ slice_get xs 0 → is_some r ≡ false → xs ≡ []
empty_front r [] e none = refl
empty_front r (x ∷ xs) e none = let no : Some x ≡ None = none_copied r (Some x) e none in cc
