-- Theorems: what is written is read back.
use Rattle.std.specs.Prelude.{◌≡◌, ◌↔◌, ◌++◌, ℕ, ℤ, List}
use Rattle.std.specs.Fmt.{signed_decimal}
use Rattle.tw_lexer.specs.Number.{IsIn64, EncodesNumber}
use Rattle.tw_lexer.specs.Quoted.{BeginsQuoted, quoted}

-- the decimal text of a number writes this number, and no other
abbrev pub NumbersAreReadBack : Type 0
NumbersAreReadBack = (n m : ℤ) → IsIn64 n → EncodesNumber m (signed_decimal n) ↔ (m ≡ n)

-- A quoted text, followed by any bytes, begins with that text and no other, and these bytes follow it.
abbrev pub QuotedTextsAreReadBack : Type 0
QuotedTextsAreReadBack = (text rest found after : List ℕ) → BeginsQuoted found (quoted text ++ rest) after ↔ ((found ≡ text) × (after ≡ rest))
