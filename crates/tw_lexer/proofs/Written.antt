-- A quoted text is read back.
use Rattle.std.proofs.Common.{◌≡◌, ◌≢◌, ◌==◌, ℕ, ◌+◌, ◌*◌, ◌/◌, ◌%◌, ◌<◌, Bool, true, false, List, [], ◌∷◌, ◌++◌, refl, sym, subst, arith, codes}
use Rattle.std.specs.Prelude.{◌||◌, nat_lt, if◌then◌else◌}
use Rattle.std.specs.Char.{digit_value}
use Rattle.std.specs.List.{flat_map}
use Rattle.std.proofs.lemmas.Bool.{eqb-true}
use Rattle.std.proofs.lemmas.Bool.Decides.{nat_tests}
use Rattle.tw_lexer.specs.Theorems.{QuotedTextsAreReadBack}
use Rattle.tw_lexer.specs.Quoted.{BeginsQuoted, IsInside, IsPiece, EncodesQuoted, backslash, escaped, hex, hex_digit, line_feed, nothing, one_more, plain, quote, quoted}
use Rattle.tw_lexer.proofs.Insides.{one_text}

hex_back : (n : ℕ) → n < 16 → digit_value (hex_digit n) ≡ n
hex_back n h = grind (arith, nat_tests)

-- a byte by two digits
by_hex : (b : ℕ) → b < 128 → IsPiece b (92 ∷ 120 ∷ hex_digit (b / 16) ∷ hex_digit (b % 16) ∷ [])
by_hex b low =
    let high : b / 16 < 8 = omega arith in
    let last : b % 16 < 16 = omega arith in
    let first = hex_back (b / 16) (omega arith) in
    let second = hex_back (b % 16) last in
    let whole : 16 * digit_value (hex_digit (b / 16)) + digit_value (hex_digit (b % 16)) ≡ b = omega arith in
    subst (λ (n : ℕ). IsPiece n (92 ∷ 120 ∷ hex_digit (b / 16) ∷ hex_digit (b % 16) ∷ [])) whole
    (hex (hex_digit (b / 16)) (hex_digit (b % 16)) (subst (λ (n : ℕ). n < 8) (sym first) high) (subst (λ (n : ℕ). n < 16) (sym second) last))

control_low : (b : ℕ) → (nat_lt b 32 || b == 127) ≡ true → b < 128
control_low b e = grind (arith, nat_tests)

apart : (a b : ℕ) → (a == b) ≡ false → a ≢ b
apart a b e same = grind (arith, nat_tests)

by_tests : (b : ℕ) (q s n c : Bool) → (b == 34) ≡ q → (b == 92) ≡ s → (b == 10) ≡ n → (nat_lt b 32 || b == 127) ≡ c
    → IsPiece b (if q then codes "\\\"" else if s then codes "\\\\" else if n then codes "\\n" else if c then codes "\\x" ++ (hex_digit (b / 16) ∷ hex_digit (b % 16) ∷ []) else b ∷ [])
by_tests b true s n c is _ _ _ = subst (λ (k : ℕ). IsPiece k (codes "\\\"")) (sym (eqb-true b 34 is)) quote
by_tests b false true n c _ is _ _ = subst (λ (k : ℕ). IsPiece k (codes "\\\\")) (sym (eqb-true b 92 is)) backslash
by_tests b false false true c _ _ is _ = subst (λ (k : ℕ). IsPiece k (codes "\\n")) (sym (eqb-true b 10 is)) line_feed
by_tests b false false false true _ _ _ is = by_hex b (control_low b is)
by_tests b false false false false no_quote no_slash _ _ = plain b (apart b 34 no_quote) (apart b 92 no_slash)

piece_written : (b : ℕ) → IsPiece b (escaped b)
piece_written b = by_tests b (b == 34) (b == 92) (b == 10) (nat_lt b 32 || b == 127) refl refl refl refl

inside_written : (text : List ℕ) → IsInside text (flat_map escaped text)
inside_written [] = nothing
inside_written (b ∷ text) = one_more b (escaped b) text (flat_map escaped text) (piece_written b) (inside_written text)

pub quoted_encodes : (text : List ℕ) → EncodesQuoted text (quoted text)
quoted_encodes text = (flat_map escaped text, inside_written text, refl)

pub quoted_texts_are_read_back : QuotedTextsAreReadBack
quoted_texts_are_read_back text rest found after =
    let own : BeginsQuoted text (quoted text ++ rest) rest = (quoted text, quoted_encodes text, refl) in (
      λ begins. one_text found text (quoted text ++ rest) after rest begins own,
      λ same. subst (λ (t : List ℕ). BeginsQuoted t (quoted text ++ rest) after) (sym same.0) (subst (λ (r : List ℕ). BeginsQuoted text (quoted text ++ rest) r) (sym same.1) own),
    )
