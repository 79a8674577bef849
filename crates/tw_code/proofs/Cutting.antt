-- Where a text may be cut.
use Rattle.std.proofs.Common.{◌≡◌, ℕ, ◌≤◌, Bool, true, false, List, refl, sym, arith, ⊎_elim}
use Rattle.std.specs.Prelude.{IsTrue, ◌↔◌, not, slice_index}
use Rattle.std.specs.Str.{IsCharBoundary}
use Rattle.std.proofs.lemmas.Bool.{and_from, and_parts, cases_Bool, false≢true, le-leb, leb-true}
use Rattle.std.proofs.lemmas.Bool.Decides.{nat_tests}
use Rattle.std.proofs.lemmas.List.{get_or_past}
use Rattle.tw_code.specs.machine.Texts.{is_inner, may_cut}

not_inner : (b : ℕ) → (128 ≤ b → 192 ≤ b) → not (is_inner b) ≡ true
not_inner b h = grind (arith, nat_tests, h)

leads : (b : ℕ) → not (is_inner b) ≡ true → 128 ≤ b → 192 ≤ b
leads b e low = grind (arith, nat_tests, e, low)

pub cut : (text : List ℕ) (place : ℕ) → IsCharBoundary text place → may_cut text place ≡ true
cut text place h = and_from _ _ (le-leb _ _ h.0) (not_inner (slice_index text place) (λ high. grind (arith, h.1, get_or_past text place 0, high)))

pub boundary : (text : List ℕ) (place : ℕ) → may_cut text place ≡ true → IsCharBoundary text place
boundary text place e = let parts = and_parts _ _ e in (leb-true _ _ parts.0, λ inside high. leads (slice_index text place) parts.1 high)

pub cut_is : (text : List ℕ) (place : ℕ) (b : Bool) → (IsTrue b ↔ IsCharBoundary text place) → b ≡ may_cut text place
cut_is text place true h = sym (cut text place (h.0 refl))
cut_is text place false h = ⊎_elim (λ is. absurd (false≢true (h.1 (boundary text place is)))) (λ inside. sym inside) (cases_Bool (may_cut text place))
