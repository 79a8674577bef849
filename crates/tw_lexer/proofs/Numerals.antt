-- Digits, one by one; and that no text writes two numbers.
use Rattle.std.proofs.Common.{◌≡◌, ℕ, zero, suc, ◌-◌, ℤ, pos, negsuc, neg_ℤ, ◌+◌, ◌*◌, ◌<◌, ◌^◌, inl, inr, List, ◌∷◌, length, take, get_or, refl, sym, ap, subst, ◌∙◌, arith}
use Rattle.std.specs.Prelude.{min, Err}
use Rattle.std.specs.Char.{digit_value}
use Rattle.std.specs.Fmt.{decimal, signed_decimal}
use Rattle.std.specs.Str.Parse.{AllDigits, digits_value}
use Rattle.std.proofs.lemmas.Bool.Decides.{nat_tests}
use Rattle.std.proofs.lemmas.Fmt.{decimal_is_IsNumeral}
use Rattle.std.proofs.lemmas.Int.Digits.{digits_more, digits_value_more}
use Rattle.std.proofs.lemmas.Str.Parse.{digit_at}
use Rattle.std.specs.Int.{IsInRange}
use Rattle.tw_lexer.proofs.Insides.{tail_is}
use Rattle.tw_lexer.specs.Theorems.{NumbersAreReadBack}
use Rattle.tw_lexer.specs.Number.{IsIn64, IsRead, EncodesDigits, EncodesNumber}
use Rattle.tw_lexer.specs.declared.numbers.TokenError.{TokenError}
use Rattle.tw_lexer.specs.declared.numbers.TokenError.TheVariants.{Form, Limit}

-- ---- the loop over the digits

-- so far these are digits, and this is their value, or one past the greatest number
pub record HasRead (text : List ℕ) (past i now : ℕ) : Type 0 where
  pub digits : AllDigits 10 (take i text)
  pub value : now ≡ min past (digits_value 10 (take i text))

digit_from : (c : ℕ) → IsInRange 48 57 c → digit_value c < 10
digit_from c h = grind (arith, nat_tests)

pub no_digit : (text : List ℕ) (i n : ℕ) → i < length text → (digit_value (get_or text i 0) < 10 → ⊥) → EncodesDigits n text → ⊥
no_digit text i n inside none spells = none (digit_from (get_or text i 0) (digit_at text i spells.digits.1 inside))

pub one_digit : (text : List ℕ) (past i value digit next : ℕ) → HasRead text past i value → i < length text → digit_value (get_or text i 0) < 10 → digit ≡ digit_value (get_or text i 0)
    → next ≡ min past (10 * value + digit) → HasRead text past (i + 1) next
one_digit text past i value digit next h inside below is made = record {
  digits = digits_more 10 text i inside h.digits below;
  value =
      let more : digits_value 10 (take (i + 1) text) ≡ digits_value 10 (take i text) * 10 + digit = digits_value_more 10 text i inside ∙ ap (λ (d : ℕ). digits_value 10 (take i text) * 10 + d) (sym is) in
      made ∙ capped (digits_value 10 (take i text)) (digits_value 10 (take (i + 1) text)) more h.value;
}
  where
    capped : (v w : ℕ) → w ≡ v * 10 + digit → value ≡ min past v → min past (10 * value + digit) ≡ min past w
    capped v w e f = omega arith

-- ---- signs

pub no_sign : (n : ℕ) (rest : List ℕ) → EncodesDigits n (45 ∷ rest) → ⊥
no_sign n rest h = absurd (omega (arith, h.digits.1.0))

-- ---- only one number

pub one_size : (n m : ℕ) (text : List ℕ) → EncodesDigits n text → EncodesDigits m text → n ≡ m
one_size n m text h k = sym h.value ∙ k.value

pub one_number : (n m : ℤ) (text : List ℕ) → EncodesNumber n text → EncodesNumber m text → n ≡ m
one_number n m text (inl (a, h, e)) (inl (b, k, f)) = e ∙ ap pos (one_size a b text h k) ∙ sym f
one_number n m text (inl (a, h, e)) (inr (b, ds, is, k, f)) = absurd (no_sign a ds (subst (EncodesDigits a) is h))
one_number n m text (inr (a, ds, is, h, e)) (inl (b, k, f)) = absurd (no_sign b ds (subst (EncodesDigits b) is k))
one_number n m text (inr (a, ds, is, h, e)) (inr (b, cs, has, k, f)) =
    let same : ds ≡ cs = tail_is 45 45 ds cs (sym is ∙ has) in
    e ∙ ap (λ (size : ℕ). neg_ℤ (pos size)) (one_size a b cs (subst (EncodesDigits a) same h) k) ∙ sym f

-- ---- the written form

pub shown : (n : ℤ) → IsIn64 n → EncodesNumber n (signed_decimal n)
shown (pos n) h = let k = decimal_is_IsNumeral n (omega (arith, h.sfits)) in inl (n, record { digits = k.0; value = k.1 }, refl)
shown (negsuc n) h = let k = decimal_is_IsNumeral (suc n) (omega (arith, h.sfits)) in inr (suc n, decimal (suc n), refl, record { digits = k.0; value = k.1 }, refl)

pub numbers_are_read_back : NumbersAreReadBack
numbers_are_read_back n m h = (λ spells. one_number m n (signed_decimal n) spells (shown n h), λ is. subst (λ (k : ℤ). EncodesNumber k (signed_decimal n)) (sym is) (shown n h))

-- ---- as the reader of a number finds it

pub size_fits : (size : ℕ) → IsIn64 (neg_ℤ (pos size)) → IsInRange 0 (2 ^ 63) size
size_fits zero h = (omega arith, omega arith)
size_fits (suc n) h = (omega arith, omega (arith, h.sfits))

pub negative_flaw : (text size : List ℕ) (flaw : TokenError) → text ≡ 45 ∷ size → IsRead (λ n. EncodesDigits n size) (IsInRange 0 (2 ^ 63)) (Err flaw) → IsRead (λ n. EncodesNumber n text) IsIn64 (Err flaw)
negative_flaw text size Form is none = λ n spells. by n spells
  where
    by : (n : ℤ) → EncodesNumber n text → ⊥
    by n (inl (k, spells, e)) = no_sign k size (subst (EncodesDigits k) is spells)
    by n (inr (k, digits, has, spells, e)) = none k (subst (EncodesDigits k) (tail_is 45 45 digits size (sym has ∙ is)) spells)
negative_flaw text size Limit is (k, spells, out) = (neg_ℤ (pos k), inr (k, size, is, spells, refl), λ fits. out (size_fits k fits))

plain_fits : (size : ℕ) → IsIn64 (pos size) → IsInRange 0 (2 ^ 63 - 1) size
plain_fits size h = (omega arith, omega (arith, h.sfits))

pub plain_flaw : (text : List ℕ) (flaw : TokenError) → ((rest : List ℕ) → text ≡ 45 ∷ rest → ⊥) → IsRead (λ n. EncodesDigits n text) (IsInRange 0 (2 ^ 63 - 1)) (Err flaw) → IsRead (λ n. EncodesNumber n text) IsIn64 (Err flaw)
plain_flaw text Form unsigned none = λ n spells. by n spells
  where
    by : (n : ℤ) → EncodesNumber n text → ⊥
    by n (inl (k, spells, e)) = none k spells
    by n (inr (k, digits, has, spells, e)) = unsigned digits has
plain_flaw text Limit unsigned (k, spells, out) = (pos k, inl (k, spells, refl), λ fits. out (plain_fits k fits))
