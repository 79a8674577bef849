-- The syntax of numbers.
use Rattle.std.specs.Prelude.{◌≡◌, ◌⊎◌, ℕ, ℤ, pos, neg_ℤ, List, ◌∷◌, Result, Ok, Err, FitsSigned}
use Rattle.std.specs.Int.{w64}
use Rattle.std.specs.Str.Parse.{IsNumeral, digits_value}
use Rattle.tw_lexer.specs.declared.numbers.TokenError.{TokenError}
use Rattle.tw_lexer.specs.declared.numbers.TokenError.TheVariants.{Form, Limit}

-- decimal digits, one or more, that write this number; leading zeros are allowed
pub record EncodesDigits (n : ℕ) (text : List ℕ) : Type 0 where
  pub digits : IsNumeral 10 text
  pub value : digits_value 10 text ≡ n

-- holds for digits, with or without a `-` before them
abbrev pub EncodesNumber : ℤ → List ℕ → Type 0
EncodesNumber n text =
    ((size : ℕ) × EncodesDigits size text × (n ≡ pos size))
    ⊎ ((size : ℕ) × (digits : List ℕ) × (text ≡ 45 ∷ digits) × EncodesDigits size digits × (n ≡ neg_ℤ (pos size)))

-- holds if it fits 64 bits, signed
abbrev pub IsIn64 : ℤ → Type 0
IsIn64 n = FitsSigned w64 n

-- The result of reading a text: a number that it writes and that is allowed; or it writes none; or it writes one that isn't
-- allowed. No text writes two numbers.
abbrev pub IsRead : {A : Type 0} → (A → Type 0) → (A → Type 0) → Result A TokenError → Type 0
IsRead Spells IsWithin (Ok n) = Spells n × IsWithin n
IsRead {A} Spells IsWithin (Err Form) = (n : A) → Spells n → ⊥
IsRead {A} Spells IsWithin (Err Limit) = (n : A) × Spells n × (IsWithin n → ⊥)
