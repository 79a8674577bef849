-- Reading a list from left to right.
use Rattle.std.specs.Prelude.{◌≡◌, ◌≢◌, ◌⊎◌, ℕ, List, [], ◌∷◌, ◌++◌}
use Rattle.std.specs.List.{AllByRecursion}

-- holds if the text is empty, or begins with this byte
abbrev pub IsStop : ℕ → List ℕ → Type 0
IsStop byte [] = Unit {0}
IsStop byte (b ∷ rest) = b ≡ byte

-- a split of bytes before the first byte that equals this one
pub record IsCut (byte : ℕ) (bytes front rest : List ℕ) : Type 0 where
  pub parts : bytes ≡ front ++ rest
  pub clean : AllByRecursion (λ b. b ≢ byte) front
  pub stop : IsStop byte rest

-- holds for a marker in a list: `=` after a subscript, a comma after a value
abbrev pub IsMark : ℕ → Type 0
IsMark byte = (byte ≡ 61) ⊎ (byte ≡ 44)

-- the value at the start, and the rest; no other value is at the start before the marker or the end
pub record IsFirst {A : Type 0} (mark : ℕ) (Spells : A → List ℕ → Type 0) (bytes : List ℕ) (x : A) (rest : List ℕ) : Type 0 where
  pub first : List ℕ
  pub spells : Spells x first
  pub parts : bytes ≡ first ++ rest
  pub alone : (y : A) (other after : List ℕ) → Spells y other → IsStop mark after → bytes ≡ other ++ after → (x ≡ y) × (rest ≡ after)

-- holds if no value is at the start before the marker or the end
abbrev pub HasNoFirst : {A : Type 0} → ℕ → (A → List ℕ → Type 0) → List ℕ → Type 0
HasNoFirst {A} mark Spells bytes = (y : A) (other after : List ℕ) → Spells y other → IsStop mark after → bytes ≡ other ++ after → ⊥
