-- Words that are written one after the other, separated by spaces, are the words of the line.
use Rattle.std.proofs.Common.{[], ◌≡◌, ◌==◌, ℕ, ◌/◌, ◌%◌, ◌<◌, ◌≤◌, ◌^◌, Bool, true, false, codes, List, ◌∷◌, ◌++◌, length, refl, sym, ap, arith}
use Rattle.std.specs.Prelude.{◌||◌, if◌then◌else◌, nat_lt}
use Rattle.std.specs.Fmt.{decimal}
use Rattle.std.specs.Int.{IsInRange}
use Rattle.std.specs.List.{AllByRecursion, flat_map, join_with_byte}
use Rattle.std.specs.Str.Parse.{AllDigits}
use Rattle.std.proofs.lemmas.Bool.Decides.{nat_tests}
use Rattle.std.proofs.lemmas.Fmt.{decimal_is_IsNumeral}
use Rattle.std.proofs.lemmas.List.{append-nil}
use Rattle.std.proofs.lemmas.Str.Parse.{digit_at}
use Rattle.tw_lexer.specs.Quoted.{escaped, hex_digit, quoted}
use Rattle.tw_lexer.specs.Words.{IsBare, IsBlank, IsFirstWord, IsLine, IsWord, Word, is_edge}
use Rattle.tw_lexer.proofs.Breaks.{IsOneLine}
use Rattle.tw_lexer.proofs.Insides.{not_eq}
use Rattle.tw_lexer.proofs.Once.{HasNoEdge}

-- each text writes its word
abbrev pub AreWords : List Word → List (List ℕ) → Type 0
AreWords [] [] = Unit {0}
AreWords [] (t ∷ ts) = ⊥
AreWords (w ∷ ws) [] = ⊥
AreWords (w ∷ ws) (t ∷ ts) = IsWord w t × AreWords ws ts

-- ---- words separated by spaces

-- a space before a word is a gap
after_space : (word : Word) (bytes rest : List ℕ) → IsFirstWord word bytes rest → IsFirstWord word (32 ∷ bytes) rest
after_space word bytes rest f = record { gap = 32 ∷ f.gap; text = f.text; parts = ap (λ (x : List ℕ). 32 ∷ x) f.parts; is_gap = (refl, f.is_gap); is_word = f.is_word; edge = f.edge }

nothing_blank : IsBlank []
nothing_blank = record { gap = []; rest = []; parts = refl; is_gap = tt; is_end = tt }

line_one : (word : Word) (text : List ℕ) → IsWord word text → IsLine (word ∷ []) text
line_one word text is = ([], ([], record { gap = []; text = text; parts = sym (append-nil text); is_gap = tt; is_word = is; edge = tt }, refl), nothing_blank)

line_more : (word next : Word) (words : List Word) (text line : List ℕ) → IsWord word text → IsLine (next ∷ words) line → IsLine (word ∷ next ∷ words) (text ++ 32 ∷ line)
line_more word next words text line is (end, (after, first, more), blank) =
    (end, (32 ∷ line, record { gap = []; text = text; parts = refl; is_gap = tt; is_word = is; edge = refl }, (after, after_space next line after first, more)), blank)

pub joined_line : (words : List Word) (texts : List (List ℕ)) → AreWords words texts → IsLine words (join_with_byte 32 texts)
joined_line [] [] are = ([], refl, nothing_blank)
joined_line [] (t ∷ ts) are = absurd are
joined_line (w ∷ ws) [] are = absurd are
joined_line (w ∷ []) (t ∷ []) are = line_one w t are.0
joined_line (w ∷ []) (t ∷ u ∷ ts) are = absurd are.1
joined_line (w ∷ v ∷ ws) (t ∷ []) are = absurd are.1
joined_line (w ∷ v ∷ ws) (t ∷ u ∷ ts) are = line_more w v ws t (join_with_byte 32 (u ∷ ts)) are.0 (joined_line (v ∷ ws) (u ∷ ts) are.1)

pub all_append : (P : ℕ → Type 0) (xs ys : List ℕ) → AllByRecursion P xs → AllByRecursion P ys → AllByRecursion P (xs ++ ys)
all_append P [] ys front back = back
all_append P (x ∷ xs) ys front back = (front.0, all_append P xs ys front.1 back)

-- a property of a space and of all bytes of the words is one of all bytes of the line
pub joined_all : (P : ℕ → Type 0) (texts : List (List ℕ)) → P 32 → AllByRecursion (AllByRecursion P) texts → AllByRecursion P (join_with_byte 32 texts)
joined_all P [] space are = tt
joined_all P (t ∷ []) space are = are.0
joined_all P (t ∷ u ∷ ts) space are = all_append P t (32 ∷ join_with_byte 32 (u ∷ ts)) are.0 (space, joined_all P (u ∷ ts) space are.1)

pub joined_one_line : (texts : List (List ℕ)) → AllByRecursion IsOneLine texts → IsOneLine (join_with_byte 32 texts)
joined_one_line texts are = joined_all (λ b. (b == 10 || b == 13) ≡ false) texts refl are

-- ---- texts between quotes

-- a byte past both
past : (b : ℕ) → 14 ≤ b → (b == 10 || b == 13) ≡ false
past b h = rw (not_eq b 10 (λ e. omega (arith, h, e)), not_eq b 13 (λ e. omega (arith, h, e))) refl

hex_past : (n : ℕ) → 14 ≤ hex_digit n
hex_past n = grind (arith, nat_tests)

not_control : (b : ℕ) → (nat_lt b 32 || b == 127) ≡ false → 14 ≤ b
not_control b e = grind (arith, nat_tests)

by_tests : (b : ℕ) (q s n c : Bool) → (nat_lt b 32 || b == 127) ≡ c
    → IsOneLine (if q then codes "\\\"" else if s then codes "\\\\" else if n then codes "\\n" else if c then codes "\\x" ++ (hex_digit (b / 16) ∷ hex_digit (b % 16) ∷ []) else b ∷ [])
by_tests b true s n c _ = (refl, (refl, tt))
by_tests b false true n c _ = (refl, (refl, tt))
by_tests b false false true c _ = (refl, (refl, tt))
by_tests b false false false true _ = (refl, (refl, (past (hex_digit (b / 16)) (hex_past (b / 16)), (past (hex_digit (b % 16)) (hex_past (b % 16)), tt))))
by_tests b false false false false is = (past b (not_control b is), tt)

escaped_one_line : (text : List ℕ) → IsOneLine (flat_map escaped text)
escaped_one_line [] = tt
escaped_one_line (b ∷ text) =
    all_append (λ c. (c == 10 || c == 13) ≡ false) (escaped b) (flat_map escaped text) (by_tests b (b == 34) (b == 92) (b == 10) (nat_lt b 32 || b == 127) refl) (escaped_one_line text)

pub quoted_one_line : (text : List ℕ) → IsOneLine (quoted text)
quoted_one_line text = (refl, all_append (λ c. (c == 10 || c == 13) ≡ false) (flat_map escaped text) (34 ∷ []) (escaped_one_line text) (refl, tt))

-- ---- numbers

digit_clean : (b : ℕ) → IsInRange 48 57 b → is_edge b ≡ false
digit_clean b h = rw (not_eq b 32 (λ e. omega (arith, h.0, e)), not_eq b 9 (λ e. omega (arith, h.0, e)), not_eq b 13 (λ e. omega (arith, h.0, e)), not_eq b 59 (λ e. omega (arith, h.1, e))) refl

digits_clean : (ds : List ℕ) → AllDigits 10 ds → HasNoEdge ds
digits_clean [] are = tt
digits_clean (d ∷ ds) are = (digit_clean d (digit_at (d ∷ ds) 0 are (omega arith)), digits_clean ds are.1)

digits_bare : (ds : List ℕ) → 0 < length ds → AllDigits 10 ds → IsBare ds
digits_bare [] some are = absurd (omega (arith, some))
digits_bare (d ∷ ds) some are = (λ e. omega (arith, (digit_at (d ∷ ds) 0 are (omega arith)).0, e), digits_clean (d ∷ ds) are)

pub decimal_clean : (n : ℕ) → n < 2 ^ 64 → HasNoEdge (decimal n)
decimal_clean n h = digits_clean (decimal n) (decimal_is_IsNumeral n h).0.1

pub decimal_bare : (n : ℕ) → n < 2 ^ 64 → IsBare (decimal n)
decimal_bare n h = let is = (decimal_is_IsNumeral n h).0 in digits_bare (decimal n) is.0 is.1
