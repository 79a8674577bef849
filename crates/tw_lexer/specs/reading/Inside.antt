-- Parsing of quoted texts from left to right.
use Rattle.std.specs.Prelude.{◌==◌, ◌<◌, ◌+◌, ◌*◌, ℕ, List, [], ◌∷◌, ◌++◌, Option, Some, None, nat_lt, if◌then◌else◌}
use Rattle.std.specs.Char.{digit_value}
use Rattle.tw_lexer.specs.declared.escape.Escape.{Escape}
use Rattle.tw_lexer.specs.declared.escape.Escape.TheVariants.{Nothing, Slash, Hex, Digit}
use Rattle.tw_lexer.specs.declared.escape.ByteEffect.{ByteEffect}
use Rattle.tw_lexer.specs.declared.escape.ByteEffect.TheVariants.{End, Wrong, Into, Byte}

-- a text, and the bytes after its closing quote
abbrev pub Found : Type 0
Found = Option (List ℕ × List ℕ)

-- prepends these bytes to the text
abbrev pub with_front : List ℕ → Found → Found
with_front front None = None
with_front front (Some x) = Some (front ++ x.0, x.1)

abbrev pub with_byte : ℕ → Found → Found
with_byte b found = with_front (b ∷ []) found

-- returns the text up to its closing quote, and the bytes after it, if this much of an escape has been read
unfoldable pub inside_from : Escape → List ℕ → Found
inside_from escape [] = None
inside_from Nothing (b ∷ rest) =
    if b == 34 then Some ([], rest) else
    if b == 92 then inside_from Slash rest else
    with_byte b (inside_from Nothing rest)
inside_from Slash (b ∷ rest) =
    if b == 34 then with_byte 34 (inside_from Nothing rest) else
    if b == 92 then with_byte 92 (inside_from Nothing rest) else
    if b == 110 then with_byte 10 (inside_from Nothing rest) else
    if b == 120 then inside_from Hex rest else
    None
inside_from Hex (b ∷ rest) = if nat_lt (digit_value b) 8 then inside_from (Digit (digit_value b)) rest else None
inside_from (Digit first) (b ∷ rest) = if nat_lt (digit_value b) 16 then with_byte (16 * first + digit_value b) (inside_from Nothing rest) else None

-- holds if the first digit of an escape is below 8
abbrev pub IsInEscape : Escape → Type 0
IsInEscape Nothing = Unit {0}
IsInEscape Slash = Unit {0}
IsInEscape Hex = Unit {0}
IsInEscape (Digit first) = first < 8

abbrev pub KeepsEscape : ByteEffect → Type 0
KeepsEscape End = Unit {0}
KeepsEscape Wrong = Unit {0}
KeepsEscape (Into escape) = IsInEscape escape
KeepsEscape (Byte b) = Unit {0}

-- returns the result after a byte with this effect
abbrev pub read_on : ByteEffect → List ℕ → Found
read_on End rest = Some ([], rest)
read_on Wrong rest = None
read_on (Into escape) rest = inside_from escape rest
read_on (Byte b) rest = with_byte b (inside_from Nothing rest)
