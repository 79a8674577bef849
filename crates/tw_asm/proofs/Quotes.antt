-- The quoted form of a text in UTF-8 is UTF-8.
use Rattle.std.proofs.Common.{◌≡◌, ◌==◌, ◌||◌, ◌<◌, ◌/◌, ◌%◌, ℕ, Bool, true, false, List, [], ◌∷◌, ◌++◌, codes, refl, sym, subst, append_assoc, arith}
use Rattle.tw_asm.proofs.AsmNames.{AllByRecursion, IsAscii-cons, IsAscii-nil, IsUtf8, IsUtf8-append, IsUtf8-from_ascii, IsUtf8-nil, escaped, flat_map, hex_digit, if◌then◌else◌, nat_lt, nat_tests, quoted}
use Rattle.tw_lexer.proofs.Utf8.{cut_front, cut_rest}

pub after_ascii : (b : ℕ) (text : List ℕ) → b < 128 → IsUtf8 text → IsUtf8 (b ∷ text)
after_ascii b text small u = IsUtf8-append (b ∷ []) text (IsUtf8-from_ascii (b ∷ []) (IsAscii-cons b [] small IsAscii-nil)) u

signs_utf8 : (signs text : List ℕ) → AllByRecursion (λ b. b < 128) signs → IsUtf8 text → IsUtf8 (signs ++ text)
signs_utf8 [] text small u = u
signs_utf8 (b ∷ signs) text small u = after_ascii b (signs ++ text) small.0 (signs_utf8 signs text small.1 u)

hex_small : (n : ℕ) → n < 16 → hex_digit n < 128
hex_small n h = grind (arith, nat_tests)

sign_byte : (b n : ℕ) → n < 128 → (b == n) ≡ true → b < 128
sign_byte b n small e = grind (arith, nat_tests)

control_byte : (b : ℕ) → (nat_lt b 32 || b == 127) ≡ true → b < 128
control_byte b e = grind (arith, nat_tests)

hex_bytes : (b : ℕ) → b < 128 → AllByRecursion (λ c. c < 128) (codes "\\x" ++ (hex_digit (b / 16) ∷ hex_digit (b % 16) ∷ []))
hex_bytes b small =
    let high : b / 16 < 16 = omega arith in
    let last : b % 16 < 16 = omega arith in
    (omega arith, (omega arith, (hex_small (b / 16) high, (hex_small (b % 16) last, tt))))

-- the escaped bytes of a text are UTF-8 after some bytes
escaped_utf8 : (front text : List ℕ) → IsUtf8 (front ++ text) → IsUtf8 (front ++ flat_map escaped text)
escaped_utf8 front [] u = u
escaped_utf8 front (b ∷ text) u = by (b == 34) (b == 92) (b == 10) (nat_lt b 32 || b == 127) refl refl refl refl (λ f v. escaped_utf8 f text v)
  where
    sign : (signs : List ℕ) → AllByRecursion (λ c. c < 128) signs → b < 128 → ((f : List ℕ) → IsUtf8 (f ++ text) → IsUtf8 (f ++ flat_map escaped text)) → IsUtf8 (front ++ (signs ++ flat_map escaped text))
    sign signs h small rest =
        IsUtf8-append front (signs ++ flat_map escaped text) (cut_front front b text small u) (signs_utf8 signs (flat_map escaped text) h (rest [] (cut_rest front b text small u)))

    by : (q s n c : Bool) → (b == 34) ≡ q → (b == 92) ≡ s → (b == 10) ≡ n → (nat_lt b 32 || b == 127) ≡ c → ((f : List ℕ) → IsUtf8 (f ++ text) → IsUtf8 (f ++ flat_map escaped text))
        → IsUtf8 (front ++ ((if q then codes "\\\"" else if s then codes "\\\\" else if n then codes "\\n" else if c then codes "\\x" ++ (hex_digit (b / 16) ∷ hex_digit (b % 16) ∷ []) else b ∷ []) ++ flat_map escaped text))
    by true s n c e _ _ _ rest = sign (codes "\\\"") (omega arith, (omega arith, tt)) (sign_byte b 34 (omega arith) e) rest
    by false true n c _ e _ _ rest = sign (codes "\\\\") (omega arith, (omega arith, tt)) (sign_byte b 92 (omega arith) e) rest
    by false false true c _ _ e _ rest = sign (codes "\\n") (omega arith, (omega arith, tt)) (sign_byte b 10 (omega arith) e) rest
    by false false false true _ _ _ e rest = let small = control_byte b e in sign (codes "\\x" ++ (hex_digit (b / 16) ∷ hex_digit (b % 16) ∷ [])) (hex_bytes b small) small rest
    by false false false false _ _ _ _ rest =
        subst IsUtf8 (append_assoc front (b ∷ []) (flat_map escaped text)) (rest (front ++ b ∷ []) (subst IsUtf8 (sym (append_assoc front (b ∷ []) text)) u))

pub quoted_utf8 : (text : List ℕ) → IsUtf8 text → IsUtf8 (quoted text)
quoted_utf8 text u =
    after_ascii 34 (flat_map escaped text ++ codes "\"") (omega arith) (IsUtf8-append (flat_map escaped text) (codes "\"") (escaped_utf8 [] text u) (signs_utf8 (codes "\"") [] (omega arith, tt) IsUtf8-nil))
