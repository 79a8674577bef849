-- Readings that report which value is written and whether it is allowed; how they are combined, and those of numbers.
use Rattle.std.proofs.Common.{◌≡◌, ◌==◌, ℕ, zero, suc, ◌≤◌, ◌^◌, ℤ, pos, neg_ℤ, Bool, true, false, cond, List, [], ◌∷◌, Result, Ok, Err, inl, inr, refl, sym, ap, subst, ◌∙◌, arith}
use Rattle.std.proofs.lemmas.Bool.{eqb-true}
use Rattle.std.proofs.lemmas.Bool.Decides.{nat_tests}
use Rattle.std.specs.Int.{IsInRange}
use Rattle.std.specs.Str.Parse.{digits_value}
use Rattle.tw_lexer.specs.Digits.{are_digits, as_is, digits_in, is_within, negative, signed_in}
use Rattle.tw_lexer.specs.Number.{IsIn64, IsRead, EncodesDigits, EncodesNumber}
use Rattle.tw_lexer.specs.declared.numbers.TokenError.{TokenError}
use Rattle.tw_lexer.specs.declared.numbers.TokenError.TheVariants.{Form, Limit}
use Rattle.tw_lexer.proofs.Decided.{digits_decide, within_decide}
use Rattle.tw_lexer.proofs.Insides.{head_is, tail_is}
use Rattle.tw_lexer.proofs.Numerals.{no_sign, one_number, one_size, size_fits}

-- The value that is written, if it is allowed; or none is written; or one is, and none that is allowed.
abbrev pub Reads : {A : Type 0} → (A → Type 0) → (A → Type 0) → Result A TokenError → Type 0
Reads Has May (Ok a) = Has a × May a
Reads {A} Has May (Err Form) = (a : A) → Has a → ⊥
Reads {A} Has May (Err Limit) = ((a : A) × Has a) × ((a : A) → Has a → May a → ⊥)

-- two readings of a text that writes at most one value are equal
pub same : {A : Type 0} (Has May : A → Type 0) → ((a b : A) → Has a → Has b → a ≡ b) → (r s : Result A TokenError) → IsRead Has May r → Reads Has May s → r ≡ s
same Has May one (Ok a) (Ok b) h k = ap (λ c. Ok c) (one a b h.0 k.0)
same Has May one (Ok a) (Err Form) h k = absurd (k a h.0)
same Has May one (Ok a) (Err Limit) h k = absurd (k.1 a h.0 h.1)
same Has May one (Err Form) (Ok b) h k = absurd (h b k.0)
same Has May one (Err Form) (Err Form) h k = refl
same Has May one (Err Form) (Err Limit) h k = absurd (h k.0.0 k.0.1)
same Has May one (Err Limit) (Ok b) h k = absurd (h.2 (subst May (one b h.0 k.0 h.1) k.1))
same Has May one (Err Limit) (Err Form) h k = absurd (k h.0 h.1)
same Has May one (Err Limit) (Err Limit) h k = refl

-- a value that is read, converted
module _ {A B : Type 0} (make : A → B) (Has May : A → Type 0) (Has' May' : B → Type 0)
    (to : (a : A) → Has a → Has' (make a)) (back : (b : B) → Has' b → (a : A) × Has a × (b ≡ make a))
    (may : (a : A) → Has a → May a → May' (make a)) (may_back : (a : A) → Has a → May' (make a) → May a) where
  pub carried : (r : Result A TokenError) → Reads Has May r → Reads Has' May' (as_is make r)
  carried (Ok a) h = (to a h.0, may a h.0 h.1)
  carried (Err Form) h = λ b k. let x = back b k in h x.0 x.1
  carried (Err Limit) h = ((make h.0.0, to h.0.0 h.0.1), λ b k m. let x = back b k in h.1 x.0 x.1 (may_back x.0 x.1 (subst May' x.2 m)))

-- ---- numbers

pub digits_read : (low high : ℕ) (text : List ℕ) → Reads (λ n. EncodesDigits n text) (IsInRange low high) (digits_in low high text)
unfolding digits_in
digits_read low high text = by (are_digits text) (is_within low high (digits_value 10 text)) refl refl
  where
    by : (d w : Bool) → are_digits text ≡ d → is_within low high (digits_value 10 text) ≡ w
        → Reads (λ n. EncodesDigits n text) (IsInRange low high) (cond d (cond w (Ok (digits_value 10 text)) (Err Limit)) (Err Form))
    by true true is has = (record { digits = (digits_decide text).0 is; value = refl }, (within_decide low high (digits_value 10 text)).0 has)
    by true false is has = ((digits_value 10 text, record { digits = (digits_decide text).0 is; value = refl }), λ n spells may. absurd (no (sym has ∙ (within_decide low high (digits_value 10 text)).1 (subst (IsInRange low high) (sym spells.value) may))))
      where
        no : false ≡ true → ⊥
        no e = cc
    by false w is has = λ n spells. no (sym is ∙ (digits_decide text).1 spells.digits)
      where
        no : false ≡ true → ⊥
        no e = cc

pub digits_same : (low high : ℕ) (text : List ℕ) (r : Result ℕ TokenError) → IsRead (λ n. EncodesDigits n text) (IsInRange low high) r → r ≡ digits_in low high text
digits_same low high text r h = same (λ n. EncodesDigits n text) (IsInRange low high) (λ a b. one_size a b text) r (digits_in low high text) h (digits_read low high text)

-- ---- with a sign

negative_fits : (size : ℕ) → size ≤ 2 ^ 63 → IsIn64 (neg_ℤ (pos size))
negative_fits zero h = record { sfits = omega arith }
negative_fits (suc n) h = record { sfits = omega (arith, h) }

pub signed_read : (text : List ℕ) → Reads (λ n. EncodesNumber n text) IsIn64 (signed_in text)
unfolding signed_in
signed_read [] = λ n spells. none n spells
  where
    none : (n : ℤ) → EncodesNumber n [] → ⊥
    none n (inl (k, h, e)) = omega (arith, h.digits.0)
    none n (inr (k, ds, is, h, e)) = no is
      where
        no : [] ≡ 45 ∷ ds → ⊥
        no e = cc
signed_read (b ∷ rest) = by (b == 45) refl
  where
    after_sign : (is : b ≡ 45) (n : ℤ) → EncodesNumber n (b ∷ rest) → (size : ℕ) × EncodesDigits size rest × (n ≡ negative size)
    after_sign is n (inl (k, h, e)) = absurd (no_sign k rest (subst (λ (c : ℕ). EncodesDigits k (c ∷ rest)) is h))
    after_sign is n (inr (k, ds, has, h, e)) = (k, subst (EncodesDigits k) (sym (tail_is b 45 rest ds has)) h, e)

    no_minus : (b ≡ 45 → ⊥) → (n : ℤ) → EncodesNumber n (b ∷ rest) → (size : ℕ) × EncodesDigits size (b ∷ rest) × (n ≡ pos size)
    no_minus isnt n (inl (k, h, e)) = (k, h, e)
    no_minus isnt n (inr (k, ds, has, h, e)) = absurd (isnt (head_is b 45 rest ds has))

    plain_fits : (size : ℕ) → IsInRange 0 0x7FFFFFFFFFFFFFFF size → IsIn64 (pos size)
    plain_fits size h = record { sfits = omega (arith, h.1) }

    plain_back : (size : ℕ) → IsIn64 (pos size) → IsInRange 0 0x7FFFFFFFFFFFFFFF size
    plain_back size h = (omega arith, omega (arith, h.sfits))

    apart : (b == 45) ≡ false → b ≡ 45 → ⊥
    apart e is = grind (arith, nat_tests)

    by : (t : Bool) → (b == 45) ≡ t → Reads (λ n. EncodesNumber n (b ∷ rest)) IsIn64 (cond t (as_is negative (digits_in 0 0x8000000000000000 rest)) (as_is pos (digits_in 0 0x7FFFFFFFFFFFFFFF (b ∷ rest))))
    by true is =
        carried negative (λ n. EncodesDigits n rest) (IsInRange 0 0x8000000000000000) (λ n. EncodesNumber n (b ∷ rest)) IsIn64
        (λ k h. inr (k, rest, ap (λ (c : ℕ). c ∷ rest) (eqb-true b 45 is), h, refl)) (after_sign (eqb-true b 45 is))
        (λ k h m. negative_fits k m.1) (λ k h m. size_fits k m) (digits_in 0 0x8000000000000000 rest) (digits_read 0 0x8000000000000000 rest)
    by false is =
        carried pos (λ n. EncodesDigits n (b ∷ rest)) (IsInRange 0 0x7FFFFFFFFFFFFFFF) (λ n. EncodesNumber n (b ∷ rest)) IsIn64
        (λ k h. inl (k, h, refl)) (no_minus (apart is))
        (λ k h m. plain_fits k m) (λ k h m. plain_back k m) (digits_in 0 0x7FFFFFFFFFFFFFFF (b ∷ rest)) (digits_read 0 0x7FFFFFFFFFFFFFFF (b ∷ rest))

pub signed_same : (text : List ℕ) (r : Result ℤ TokenError) → IsRead (λ n. EncodesNumber n text) IsIn64 r → r ≡ signed_in text
signed_same text r h = same (λ n. EncodesNumber n text) IsIn64 (λ a b. one_number a b text) r (signed_in text) h (signed_read text)
