-- Lists of numbers: membership, and lists without duplicates.
use Rattle.std.specs.Prelude.{◌≡◌, ℕ, ◌==◌, Bool, false, List, [], ◌∷◌}
use Rattle.std.specs.List.{list_any}

abbrev pub is_among : ℕ → List ℕ → Bool
is_among n numbers = list_any (λ m. m == n) numbers

-- holds if no number is there twice
abbrev pub AreDistinct : List ℕ → Type 0
AreDistinct [] = Unit {0}
AreDistinct (n ∷ numbers) = (is_among n numbers ≡ false) × AreDistinct numbers
