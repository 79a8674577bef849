-- The syntax of quoted texts, and the form in which they are written.
use Rattle.std.specs.Prelude.{◌≡◌, ◌≢◌, ◌==◌, ◌||◌, ◌<◌, ◌+◌, ◌*◌, ◌/◌, ◌%◌, ℕ, List, [], ◌∷◌, ◌++◌, codes, nat_lt, if◌then◌else◌}
use Rattle.std.specs.Char.{digit_value}
use Rattle.std.specs.List.{flat_map}

-- ---- the syntax

-- The forms of one byte between quotes: the byte itself, unless it is `"` or `\`; `"` or `\` after a `\`; a line
-- feed as `\n`; any byte up to 7F as `\x` and two hexadecimal digits of either case.
pub data IsPiece : ℕ → List ℕ → Type 0 where
  plain : (b : ℕ) → b ≢ 34 → b ≢ 92 → IsPiece b (b ∷ [])
  quote : IsPiece 34 (92 ∷ 34 ∷ [])
  backslash : IsPiece 92 (92 ∷ 92 ∷ [])
  line_feed : IsPiece 10 (92 ∷ 110 ∷ [])
  hex : (h l : ℕ) → digit_value h < 8 → digit_value l < 16 → IsPiece (16 * digit_value h + digit_value l) (92 ∷ 120 ∷ h ∷ l ∷ [])

-- the forms of a text between quotes, byte by byte
pub data IsInside : List ℕ → List ℕ → Type 0 where
  nothing : IsInside [] []
  one_more : (b : ℕ) (piece text inside : List ℕ) → IsPiece b piece → IsInside text inside → IsInside (b ∷ text) (piece ++ inside)

-- holds for a text, by its bytes, between two quotes
abbrev pub EncodesQuoted : List ℕ → List ℕ → Type 0
EncodesQuoted text word = (inside : List ℕ) × IsInside text inside × (word ≡ 34 ∷ (inside ++ 34 ∷ []))

-- holds if the bytes begin with the quoted text, and this follows
abbrev pub BeginsQuoted : List ℕ → List ℕ → List ℕ → Type 0
BeginsQuoted text bytes rest = (word : List ℕ) × EncodesQuoted text word × (bytes ≡ word ++ rest)

-- ---- the written form

-- returns a digit of base 16, in lower case
abbrev pub hex_digit : ℕ → ℕ
hex_digit n = if nat_lt n 10 then 48 + n else 87 + n

-- returns the written form of a byte: `"` and `\` after a `\`, a line feed as `\n`, another control byte as `\x` and two
-- digits, and any other byte as itself.
abbrev pub escaped : ℕ → List ℕ
escaped b =
    if b == 34 then codes "\\\"" else
    if b == 92 then codes "\\\\" else
    if b == 10 then codes "\\n" else
    if nat_lt b 32 || b == 127 then codes "\\x" ++ (hex_digit (b / 16) ∷ hex_digit (b % 16) ∷ []) else
    b ∷ []

abbrev pub quoted : List ℕ → List ℕ
quoted text = codes "\"" ++ (flat_map escaped text ++ codes "\"")
