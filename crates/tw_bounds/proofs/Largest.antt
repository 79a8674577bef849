-- The largest budget, one procedure after another.
use Rattle.std.proofs.Common.{◌≡◌, ℕ, ◌+◌, ◌<◌, ◌≤◌, ◌⊎◌, inl, inr, max, List, slice_get, Option, Some, None, refl, sym, subst, ◌∙◌, arith}
use Rattle.tw_bounds.proofs.Names.{Flow, IsBudget, IsLargestOf, IsSomeAnd, Procedure, cases_lt, flows, same_Some}

one_budget : (code : List Flow) (a b : ℕ) → IsBudget code a → IsBudget code b → a ≤ b
one_budget code a b is other = let m = other.most is.some.0 is.some.1 in omega (arith, is.some.2, m)

pub largest_first : (program : List Procedure) → IsLargestOf program 0 0
largest_first program = record { each = λ k p budget fits here is. absurd (omega (arith, fits)); least = λ n all. omega arith }

largest_next : (program : List Procedure) (count most budget : ℕ) (p : Procedure) → slice_get program count ≡ Some p → IsBudget (flows p.code) budget → IsLargestOf program count most → IsLargestOf program (count + 1) (max most budget)
largest_next program count most budget p here is so_far = record {
  each = λ k q other fits there b. each k q other fits there b (cases_lt k count);
  least = λ n all.
      let before = so_far.least n (λ k q other fits there b. all k q other (omega arith) there b) in
      let own = all count p budget (omega arith) here is in
      omega (arith, before, own);
}
  where
    each : (k : ℕ) (q : Procedure) (other : ℕ) → k < count + 1 → slice_get program k ≡ Some q → IsBudget (flows q.code) other → ((k < count) ⊎ (count ≤ k)) → other ≤ max most budget
    each k q other fits there b (inl before) = let h = so_far.each k q other before there b in omega (arith, h)
    each k q other fits there b (inr last) =
        let number : k ≡ count = omega arith in
        let same : q ≡ p = same_Some q p (sym there ∙ subst (λ (n : ℕ). slice_get program n ≡ Some p) (sym number) here) in
        let h = one_budget (flows p.code) other budget (subst (λ (r : Procedure). IsBudget (flows r.code) other) same b) is in
        omega (arith, h)

there : {X : Type 0} (o : Option X) (P : X → Type 0) → IsSomeAnd o P → (x : X) × (o ≡ Some x) × P x
there None P is = absurd is
there (Some x) P is = (x, refl, is)

pub largest_more : (program : List Procedure) (count most budget : ℕ) → IsSomeAnd (slice_get program count) (λ p. IsBudget (flows p.code) budget) → IsLargestOf program count most → IsLargestOf program (count + 1) (max most budget)
largest_more program count most budget is so_far =
    let p = there (slice_get program count) (λ q. IsBudget (flows q.code) budget) is in
    largest_next program count most budget p.0 p.1 p.2 so_far
