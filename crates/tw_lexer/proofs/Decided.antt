-- Decisions of the tests of digits and limits.
use Rattle.std.proofs.Common.{◌≡◌, ◌≤◌, ℕ, true, false, List, [], ◌∷◌, Decides, refl, arith}
use Rattle.std.specs.Prelude.{nat_lt}
use Rattle.std.specs.Char.{digit_value}
use Rattle.std.specs.Int.{IsInRange}
use Rattle.std.specs.Str.Parse.{AllDigits, IsNumeral}
use Rattle.std.proofs.lemmas.Bool.Decides.{Decides-and, Decides-ltb, nat_tests}
use Rattle.tw_lexer.specs.Digits.{all_digits, are_digits, is_within}

all_decide : (text : List ℕ) → Decides (all_digits text) (AllDigits 10 text)
all_decide [] = (λ _. tt, λ _. refl)
all_decide (c ∷ cs) = Decides-and (nat_lt (digit_value c) 10) (all_digits cs) (Decides-ltb (digit_value c) 10) (all_decide cs)

pub digits_decide : (text : List ℕ) → Decides (are_digits text) (IsNumeral 10 text)
digits_decide [] = (λ e. absurd (no e), λ h. absurd (omega (arith, h.0)))
  where
    no : false ≡ true → ⊥
    no e = cc
digits_decide (c ∷ cs) = (λ e. (omega arith, (all_decide (c ∷ cs)).0 e), λ h. (all_decide (c ∷ cs)).1 h.1)

pub within_decide : (low high n : ℕ) → Decides (is_within low high n) (IsInRange low high n)
within_decide low high n = (λ e. (grind (arith, nat_tests), grind (arith, nat_tests)), λ h. inside h.0 h.1)
  where
    inside : low ≤ n → n ≤ high → is_within low high n ≡ true
    inside h k = grind (arith, nat_tests)
