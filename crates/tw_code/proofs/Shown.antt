-- READI reads just the texts that SHOW makes.
use Rattle.std.proofs.Common.{◌≡◌, ℕ, suc, ℤ, pos, negsuc, neg_ℤ, Bool, true, false, if◌then◌else◌, List, [], ◌∷◌, ◌==◌, Some, None, refl, sym, ap, subst, ◌∙◌, arith}
use Rattle.std.specs.Prelude.{FitsSigned, bytes_eq}
use Rattle.std.specs.Fmt.{decimal, signed_decimal}
use Rattle.std.specs.Int.{w64}
use Rattle.std.specs.Str.Parse.{AllDigits, digits_value, signed_digits_value}
use Rattle.std.proofs.lemmas.Fmt.{decimal_is_IsNumeral}
use Rattle.std.proofs.lemmas.Str.Parse.{digit_from_value}
use Rattle.std.proofs.lemmas.Slice.Eq.{bytes_eq-Decides}
use Rattle.std.proofs.lemmas.Bool.Decides.{nat_tests}
use Rattle.tw_code.specs.machine.Local.{fits_64, int_shown_as}
use Rattle.tw_code.specs.machine.Shown.{ShownAndRead}
use Rattle.tw_code.proofs.Range.{fits_64-Decides}

-- digits alone write their value
unsigned : (ds : List ℕ) → AllDigits 10 ds → signed_digits_value 10 ds ≡ pos (digits_value 10 ds)
unsigned [] d = refl
unsigned (c ∷ cs) d =
    let above = digit_from_value c d.0 in
    let plus : (c == 43) ≡ false = grind (arith, nat_tests, above) in
    let minus : (c == 45) ≡ false = grind (arith, nat_tests, above) in
    rw (plus, minus) refl

-- the text of an integer writes it
pub written : (n : ℤ) → FitsSigned w64 n → signed_digits_value 10 (signed_decimal n) ≡ n
written (pos n) h = let k = decimal_is_IsNumeral n (omega (arith, h.sfits)) in unsigned (decimal n) k.0.1 ∙ ap pos k.1
written (negsuc n) h = let k = decimal_is_IsNumeral (suc n) (omega (arith, h.sfits)) in ap (λ m. neg_ℤ (pos m)) k.1

-- READI gives an integer in 64 bits exactly if the text is that integer's
pub shown_is : (text : List ℕ) (n : ℤ) → int_shown_as text ≡ Some n → FitsSigned w64 n × (text ≡ signed_decimal n)
shown_is text n e =
    by (bytes_eq (signed_decimal (signed_digits_value 10 text)) text) (fits_64 (signed_digits_value 10 text))
    (bytes_eq-Decides (signed_decimal (signed_digits_value 10 text)) text).0 (fits_64-Decides (signed_digits_value 10 text)).0 e
  where
    by : (b c : Bool) → (b ≡ true → signed_decimal (signed_digits_value 10 text) ≡ text) → (c ≡ true → FitsSigned w64 (signed_digits_value 10 text))
        → (if b then (if c then Some (signed_digits_value 10 text) else None) else None) ≡ Some n → FitsSigned w64 n × (text ≡ signed_decimal n)
    by true true same fits is =
        let number : signed_digits_value 10 text ≡ n = cc in
        (subst (FitsSigned w64) number (fits refl), sym (same refl) ∙ ap signed_decimal number)
    by true false same fits is = cc
    by false c same fits is = cc

pub is_shown : (n : ℤ) → FitsSigned w64 n → int_shown_as (signed_decimal n) ≡ Some n
is_shown n h =
    let same : bytes_eq (signed_decimal (signed_digits_value 10 (signed_decimal n))) (signed_decimal n) ≡ true = (bytes_eq-Decides (signed_decimal (signed_digits_value 10 (signed_decimal n))) (signed_decimal n)).1 (ap signed_decimal (written n h)) in
    let fits : fits_64 n ≡ true = (fits_64-Decides n).1 h in
    rw (same, written n h, fits) refl

pub shown_and_read : ShownAndRead
shown_and_read text n = (shown_is text n, λ h. ap int_shown_as h.1 ∙ is_shown n h.0)
