-- An input that is made of lists, and then appended.
use Rattle.tw_handles.proofs.Names.{Err, Fails, Held, Input, IsAdded, IsListAdded, IsWhy, MatchResult, Ok, Option, Result, inl, inr, subst, sym, ℕ, ◌≡◌}

pub joined : (Fit : Type 0) (given : Input) (old new : Option Held) (code : ℕ) (made : Result Input ℕ) → MatchResult made (λ input. Fit × (input ≡ given)) (IsWhy Fit)
    → MatchResult made (λ input. IsAdded input old new code) (λ why. Fails why old new code) → IsListAdded Fit given old new code
joined Fit given old new code (Ok input) is added = inl (is.0, subst (λ (x : Input). IsAdded x old new code) is.1 added)
joined Fit given old new code (Err why) is added = inr (added.0, subst (λ (n : ℕ). IsWhy Fit n) (sym added.1) is)
