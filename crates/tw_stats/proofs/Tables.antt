-- Tables of numbers that change.
use Rattle.std.proofs.Common.{arith, ◌≡◌, ◌+◌, ◌-◌, ◌<◌, ◌≤◌, ◌^◌, ◌==◌, ℕ, Bool, true, false, if◌then◌else◌, List, [], ◌∷◌, ◌++◌, length, min, refl, sym, ap, subst, ◌∙◌, slice_index, ◌⊎◌, inl, inr}
use Rattle.std.specs.Prelude.{Result, Ok, Err, OnOk}
use Rattle.std.specs.declared.alloc.AllocError.{AllocError}
use Rattle.std.proofs.lemmas.Bool.{eqb-true}
use Rattle.std.proofs.lemmas.List.Sums.{get_or-le-sum_by, sum_by-append, sum_by-set}
use Rattle.std.proofs.lemmas.List.{get_or_past}
use Rattle.std.proofs.Math.ListN.{set}
use Rattle.std.proofs.lemmas.Bool.{cases_lt}
use Rattle.tw_stats.specs.Tables.{IsAdded, IsSet, IsWithin, number_at, sum_of, total}
use Rattle.tw_stats.specs.declared.table.Table.{Table}

-- one zero more
pub zero_more : (xs ys : List ℕ) → ys ≡ xs ++ 0 ∷ [] → total ys ≡ total xs
zero_more xs ys is = ap total is ∙ sum_by-append (λ n. n) xs (0 ∷ []) ∙ (let none : total (0 ∷ []) ≡ 0 = refl in omega arith)

-- one number set
pub set_total : (xs : List ℕ) (i y : ℕ) → i < length xs → total (set xs i y) + slice_index xs i ≡ total xs + y
set_total xs i y inside = sum_by-set (λ n. n) xs i y 0 inside

-- no number exceeds the sum
pub at_most_sum : (t : Table) (key : ℕ) → number_at t key ≤ sum_of t
at_most_sum t key = elim (cases_lt key (length t.items.items)) [
  | inl inside ↦ get_or-le-sum_by (λ n. n) t.items.items key 0 inside
  | inr past ↦ let none : number_at t key ≡ 0 = get_or_past t.items.items key 0 past in omega arith
]

-- an amount added to one number
pub added : (result : Result (Unit {0}) AllocError) (old new : Table) (key amount at number : ℕ) → at ≡ number_at old key → number ≡ min (at + amount) (2 ^ 64 - 1) → OnOk result (IsSet old key number new)
    → OnOk result (sum_of new + number_at old key ≡ sum_of old + number) → OnOk result (sum_of old + amount < 2 ^ 64 → IsAdded old key amount new)
added (Err e) old new key amount at number is grown each sum = tt
added (Ok u) old new key amount at number is grown each sum = λ small.
    let exact : number ≡ number_at old key + amount = omega (arith, at_most_sum old key) in
    record { each = λ k. each k ∙ by k (key == k) refl exact; sum = omega arith }
  where
    by : (k : ℕ) (b : Bool) → (key == k) ≡ b → number ≡ number_at old key + amount → (if b then number else number_at old k) ≡ number_at old k + (if b then amount else 0)
    by k true e exact = exact ∙ ap (λ (n : ℕ). number_at old n + amount) (eqb-true key k e)
    by k false e exact = omega arith
