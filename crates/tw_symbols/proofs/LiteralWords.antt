-- Words that are literals, and words that stay.
use Rattle.tw_symbols.proofs.TextNames.{Bool, Expected, List, Names, None, Option, Procedures, Some, [], ap, append-nil, arith, eqb-true, false, inl, inr, is_some, length, nat_le, nat_tests, number_of, refl, subst, sym, true, ℕ, ◌&&◌, ◌++◌, ◌==◌, ◌∙◌, ◌∷◌, ◌≡◌, ◌≤◌, ◌<◌}
use Rattle.std.specs.Prelude.{IsUtf8, ◌↔◌}
use Rattle.tw_lexer.specs.Quoted.{BeginsQuoted, EncodesQuoted}
use Rattle.tw_lexer.proofs.Insides.{one_text}
use Rattle.tw_symbols.specs.Renamed.{AreOperands, IsLiteral, IsOperand, IsQuotedText}
use Rattle.tw_symbols.specs.declared.meaning.Expected.TheVariants as asked

-- ---- quoted texts

pub no_text : (word bytes : List ℕ) → bytes ≡ word → ((text rest : List ℕ) → BeginsQuoted text bytes rest → ⊥) → (false ≡ true) ↔ IsQuotedText word
no_text word bytes same none = ((λ e. absurd (no e)), held)
  where
    no : false ≡ true → ⊥
    no e = cc

    held : IsQuotedText word → false ≡ true
    held (_, text, encodes, _) = absurd (none text [] (word, encodes, same ∙ sym (append-nil word)))

both_true : (x y : Bool) → (x && y) ≡ true → (x ≡ true) × (y ≡ true)
both_true true true e = (refl, refl)
both_true true false e = absurd cc
both_true false y e = absurd cc

no_rest : (rest : List ℕ) → (length rest == 0) ≡ true → rest ≡ []
no_rest [] e = refl
no_rest (b ∷ rest) e = absurd (omega (arith, eqb-true (length (b ∷ rest)) 0 e))

short : (n : ℕ) → nat_le n 4096 ≡ true → n ≤ 4096
short n e = grind (arith, nat_tests)

is_short : (n : ℕ) → n ≤ 4096 → nat_le n 4096 ≡ true
is_short n e = grind (arith, nat_tests)

whole : (rest : List ℕ) (n : ℕ) → rest ≡ [] → n ≤ 4096 → ((length rest == 0) && nat_le n 4096) ≡ true
whole rest n none few = rw (none, is_short n few) refl

-- the test of a quoted text that is read, and of what follows it
pub is_text : (word bytes text read rest : List ℕ) (t : Bool) → t ≡ ((length rest == 0) && nat_le (length read) 4096) → read ≡ text → IsUtf8 word → bytes ≡ word → BeginsQuoted text bytes rest → (t ≡ true) ↔ IsQuotedText word
is_text word bytes text read rest t tests text_is utf8 same (front, encodes, parts) = (held, tested)
  where
    held : t ≡ true → IsQuotedText word
    held is =
        let both = both_true (length rest == 0) (nat_le (length read) 4096) (sym tests ∙ is) in
        let all : front ≡ word = sym (sym same ∙ parts ∙ ap (λ (r : List ℕ). front ++ r) (no_rest rest both.0) ∙ append-nil front) in
        (utf8, text, subst (EncodesQuoted text) all encodes, subst (λ (x : List ℕ). length x ≤ 4096) text_is (short (length read) both.1))

    tested : IsQuotedText word → t ≡ true
    tested (_, other, also, few) =
        let once = one_text text other word rest [] (front, encodes, sym same ∙ parts) (word, also, sym (append-nil word)) in
        tests ∙ whole rest (length read) once.1 (subst (λ (x : List ℕ). length x ≤ 4096) (sym (text_is ∙ once.0)) few)

-- ---- literals

pub is_number : (word : List ℕ) → is_some (number_of word) ≡ true → (true ≡ true) ↔ IsLiteral word
is_number word some = ((λ e. inl some), λ is. refl)

pub no_number : (word : List ℕ) (t : Bool) → is_some (number_of word) ≡ false → (t ≡ true) ↔ IsQuotedText word → (t ≡ true) ↔ IsLiteral word
no_number word t none is = ((λ e. inr (is.0 e)), by)
  where
    no : false ≡ true → ⊥
    no e = cc

    by : IsLiteral word → t ≡ true
    by (inl some) = absurd (no (sym none ∙ some))
    by (inr text) = is.1 text

-- words without a place stay
pub all_stay : (p : Procedures) (names : Names) (places : List Expected) (words plains : List (List ℕ)) → length places < 1 → plains ≡ words → AreOperands p names places words plains names
unfolding IsOperand
all_stay p names (place ∷ places) words plains few same = absurd (omega (arith, few))
all_stay p names [] words plains few same = subst (λ (ks : List (List ℕ)). AreOperands p names [] words ks names) (sym same) (each words)
  where
    no : asked.Nothing ≡ asked.Read → ⊥
    no e = cc

    each : (words : List (List ℕ)) → AreOperands p names [] words words names
    each [] = refl
    each (word ∷ words) = (names, inl (refl, refl, (λ e. absurd (no e)), inl (refl, inr refl)), each words)

pub none_is : (first : Option ℕ) → is_some first ≡ false → first ≡ None
none_is None e = refl
none_is (Some number) e = absurd cc
