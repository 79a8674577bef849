-- Tests of digits and limits, and the numbers that are read.
use Rattle.std.specs.Prelude.{ℕ, ℤ, pos, neg_ℤ, Bool, true, false, ◌&&◌, ◌==◌, nat_lt, if◌then◌else◌, List, [], ◌∷◌, Result, Ok, Err}
use Rattle.std.specs.Char.{digit_value}
use Rattle.std.specs.Str.Parse.{digits_value}
use Rattle.tw_lexer.specs.declared.numbers.TokenError.{TokenError}
use Rattle.tw_lexer.specs.declared.numbers.TokenError.TheVariants.{Form, Limit}

abbrev pub all_digits : List ℕ → Bool
all_digits [] = true
all_digits (d ∷ ds) = nat_lt (digit_value d) 10 && all_digits ds

abbrev pub are_digits : List ℕ → Bool
are_digits [] = false
are_digits (d ∷ ds) = all_digits (d ∷ ds)

abbrev pub is_within : ℕ → ℕ → ℕ → Bool
is_within low high n = if nat_lt n low then false else if nat_lt high n then false else true

-- ---- results of reading

-- converts a result
abbrev pub as_is : {A B : Type 0} → (A → B) → Result A TokenError → Result B TokenError
as_is make (Ok a) = Ok (make a)
as_is make (Err e) = Err e

-- returns the number that digits write, if it is between these limits
unfoldable pub digits_in : ℕ → ℕ → List ℕ → Result ℕ TokenError
digits_in low high text = if are_digits text then (if is_within low high (digits_value 10 text) then Ok (digits_value 10 text) else Err Limit) else Err Form

abbrev pub negative : ℕ → ℤ
negative n = neg_ℤ (pos n)

-- returns the number that a text writes, if it fits 64 bits
unfoldable pub signed_in : List ℕ → Result ℤ TokenError
signed_in [] = Err Form
signed_in (b ∷ rest) = if b == 45 then as_is negative (digits_in 0 0x8000000000000000 rest) else as_is pos (digits_in 0 0x7FFFFFFFFFFFFFFF (b ∷ rest))
