-- Numbers, as they are read.
use Rattle.tw_report.proofs.Names.{Bool, EncodesDigits, Err, IsInRange, IsRead, List, None, Ok, Option, Some, ap, cond, false, refl, subst, sym, true, ℕ, ◌∙◌, ◌≡◌}
use Rattle.std.specs.Str.Parse.{digits_value}
use Rattle.tw_lexer.specs.declared.numbers.TokenError.{TokenError}
use Rattle.tw_lexer.specs.declared.numbers.TokenError.TheVariants.{Form, Limit}
use Rattle.tw_lexer.specs.Digits.{are_digits, is_within}
use Rattle.tw_lexer.proofs.Decided.{digits_decide, within_decide}
use Rattle.tw_report.specs.reading.Event.{number_in}

-- the number that digits write is read, if it is within the limits
pub number_read : (low high n : ℕ) (text : List ℕ) → EncodesDigits n text → IsInRange low high n → number_in low high text ≡ Some n
unfolding number_in
number_read low high n text spells inside =
    let digits : are_digits text ≡ true = (digits_decide text).1 spells.digits in
    let within : is_within low high (digits_value 10 text) ≡ true = (within_decide low high (digits_value 10 text)).1 (subst (IsInRange low high) (sym spells.value) inside) in
    rw (digits, within) (ap Some spells.value)

-- and nothing else is
pub number_encoded : (low high n : ℕ) (text : List ℕ) → number_in low high text ≡ Some n → EncodesDigits n text × IsInRange low high n
unfolding number_in
number_encoded low high n text e = by (are_digits text) (is_within low high (digits_value 10 text)) refl refl e
  where
    by : (d w : Bool) → are_digits text ≡ d → is_within low high (digits_value 10 text) ≡ w → cond d (cond w (Some (digits_value 10 text)) None) None ≡ Some n → EncodesDigits n text × IsInRange low high n
    by true true is has e =
        let same : digits_value 10 text ≡ n = cc in
        (record { digits = (digits_decide text).0 is; value = same }, subst (IsInRange low high) same ((within_decide low high (digits_value 10 text)).0 has))
    by true false is has e = cc
    by false w is has e = cc

pub number_ok : (low high n : ℕ) (text : List ℕ) → IsRead (λ n. EncodesDigits n text) (IsInRange low high) (Ok n) → Some n ≡ number_in low high text
number_ok low high n text h = sym (number_read low high n text h.0 h.1)

pub number_err : (low high : ℕ) (text : List ℕ) (flaw : TokenError) → IsRead (λ n. EncodesDigits n text) (IsInRange low high) (Err flaw) → None ≡ number_in low high text
number_err low high text flaw h = by flaw h (number_in low high text) refl
  where
    by : (flaw : TokenError) → IsRead (λ n. EncodesDigits n text) (IsInRange low high) (Err flaw) → (o : Option ℕ) → number_in low high text ≡ o → None ≡ o
    by flaw h None e = refl
    by Form h (Some n) e = absurd (h n (number_encoded low high n text e).0)
    by Limit h (Some n) e =
        let s = number_encoded low high n text e in
        absurd (h.2 (subst (IsInRange low high) (sym s.0.value ∙ h.1.value) s.1))
