-- The names of written labels: `L` and a number.
use Rattle.tw_asm.proofs.AsmNames.{AllByRecursion, AllDigits, IsInName, IsShortName, List, [], append_cancel_left, arith, codes, decimal, decimal_injective, decimal_is_IsNumeral, digit_from_value, inl, inr, length, length-decimal-le, ℕ, ◌++◌, ◌<◌, ◌^◌, ◌∷◌, ◌≡◌, ◌≤◌}

digits_in_name : (digits : List ℕ) → AllDigits 10 digits → AllByRecursion IsInName digits
digits_in_name [] h = tt
digits_in_name (d ∷ digits) h = (inr (inl (digit_from_value d h.0)), digits_in_name digits h.1)

-- it is a short name
pub numbered_name : (number : ℕ) → number < 2 ^ 64 → IsShortName (codes "L" ++ decimal number)
numbered_name number small =
    let short : length (decimal number) ≤ 20 = length-decimal-le 20 number (omega arith) (omega arith) small in
    ((inl (omega arith, omega arith), digits_in_name (decimal number) (decimal_is_IsNumeral number small).0.1), omega arith)

-- different numbers have different names
pub one_numbered : (n m : ℕ) → n < 2 ^ 64 → m < 2 ^ 64 → codes "L" ++ decimal n ≡ codes "L" ++ decimal m → n ≡ m
one_numbered n m h k e = decimal_injective n m h k (append_cancel_left (codes "L") (decimal n) (decimal m) e)
