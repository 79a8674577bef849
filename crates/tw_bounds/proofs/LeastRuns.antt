-- The smaller of two bounds of a run bounds it.
use Rattle.std.proofs.Common.{◌≡◌, ℕ, Bool, true, false, min, List, Option, Some, None, refl, ap, subst, arith, leb, slice_get, unwrap_or}
use Rattle.tw_bounds.proofs.Names.{AtMost, Bound, BoundsRuns, Endless, Event, Input, IsAtMost, IsRunWithin, IsRunWithinLimited, LeastRuns, LimitedBounds, LimitsRuns, Over, Procedure, RunBounds, State, least, leb-false, leb-true, lesser, main_in, main_of}
use Rattle.tw_bounds.proofs.Reporting.{number_of}

main_at : (bounds : List Bound) (n : ℕ) → main_in bounds ≡ AtMost n → IsAtMost bounds n
main_at bounds n e = by (slice_get bounds 0) e
  where
    by : (o : Option Bound) → unwrap_or o Endless ≡ AtMost n → o ≡ Some (AtMost n)
    by None at = cc
    by (Some b) at = ap (λ (x : Bound). Some x) at

module _ (P : ℕ → Type 0) where
  in_both : (a b : ℕ) → P a → P b → P (min a b)
  in_both a b p q = by (leb a b) refl
    where
      by : (c : Bool) → leb a b ≡ c → P (min a b)
      by true e = let h = leb-true a b e in subst P (omega arith) p
      by false e = let h = leb-false a b e in subst P (omega arith) q

  of_lesser : (a b : Bound) → ((n : ℕ) → a ≡ AtMost n → P n) → ((n : ℕ) → b ≡ AtMost n → P n) → (n : ℕ) → lesser a b ≡ AtMost n → P n
  of_lesser (AtMost x) (AtMost y) p q n e = let same : min x y ≡ n = ap number_of e in subst P same (in_both x y (p x refl) (q y refl))
  of_lesser (AtMost x) Over p q n e = p n e
  of_lesser (AtMost x) Endless p q n e = p n e
  of_lesser Over (AtMost y) p q n e = q n e
  of_lesser Over Over p q n e = cc
  of_lesser Over Endless p q n e = cc
  of_lesser Endless b p q n e = q n e

module _ (program : List Procedure) (inputs : List Input) (events : List Event) (s : State) where
  main_within : (bounds : RunBounds) → IsRunWithin program bounds inputs events s → IsRunWithinLimited program (main_of bounds) inputs events s
  main_within bounds w = record {
    tasks = λ n at. w.tasks n (main_at bounds.tasks.items n at);
    instructions = λ n at. w.instructions n (main_at bounds.instructions.items n at);
    new_data = λ n at. w.new_data n (main_at bounds.data.items n at);
    rules = λ n at. w.rules n (main_at bounds.rules.items n at);
    members = λ n at. w.members n (main_at bounds.members.items n at);
    bytes = λ n at. w.bytes n (main_at bounds.bytes.items n at);
    few = λ n at. w.events n (main_at bounds.events.items n at);
  }

  least_within : (a b : LimitedBounds) → IsRunWithinLimited program a inputs events s → IsRunWithinLimited program b inputs events s → IsRunWithinLimited program (least a b) inputs events s
  least_within a b v w = record {
    tasks = of_lesser _ a.tasks b.tasks v.tasks w.tasks;
    instructions = of_lesser _ a.instructions b.instructions v.instructions w.instructions;
    new_data = of_lesser _ a.data b.data v.new_data w.new_data;
    rules = of_lesser _ a.rules b.rules v.rules w.rules;
    members = of_lesser _ a.members b.members v.members w.members;
    bytes = of_lesser _ a.bytes b.bytes v.bytes w.bytes;
    few = of_lesser _ a.events b.events v.few w.few;
  }

pub main_runs : (program : List Procedure) (bounds : RunBounds) → BoundsRuns program bounds → LeastRuns program None (main_of bounds)
main_runs program bounds runs = record { within = λ inputs layout events s given short e. main_within program inputs events s bounds (runs.within inputs layout events s given e) }

pub least_runs : (program : List Procedure) (bounds : RunBounds) (limit : ℕ) (limited : LimitedBounds) → BoundsRuns program bounds → LimitsRuns program limit limited → LeastRuns program (Some limit) (least (main_of bounds) limited)
least_runs program bounds limit limited runs limits = record {
  within = λ inputs layout events s given short e. least_within program inputs events s (main_of bounds) limited (main_within program inputs events s bounds (runs.within inputs layout events s given e)) (limits.within inputs layout events s given short e);
}
