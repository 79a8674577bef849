-- The instructions of one event more, and the circle of a stuck run.
use Rattle.std.proofs.Common.{◌≡◌, ◌≤◌, ◌+◌, ◌∙◌, ℕ, List, length, take, Option, Some, sym, ap}
use Rattle.std.specs.Prelude.{slice_get}
use Rattle.std.proofs.lemmas.List.{take_all}
use Rattle.std.proofs.lemmas.List.Sums.{sum_by_more}
use Rattle.std.proofs.lemmas.Option.{get_or_from_slice_get, slice_get_within}
use Rattle.tw_run_output.proofs.RunNames.{Event}
use Rattle.tw_bounds.specs.Runs.{instructions_by, instructions_in}

pub one_more : (history : List Event) (i : ℕ) (e : Event) (old new : ℕ) → old ≡ instructions_in (take i history) → slice_get history i ≡ Some e → new ≡ old + instructions_by e → new ≡ instructions_in (take (i + 1) history)
one_more history i e old new before at made =
    made ∙ ap (λ (n : ℕ). n + instructions_by e) before
    ∙ sym (sum_by_more instructions_by history i e (slice_get_within history i e at) ∙ ap (λ (x : Event). instructions_in (take i history) + instructions_by x) (get_or_from_slice_get history i e e at))

pub all_counted : (history : List Event) (i : ℕ) (sum : ℕ) → length history ≤ i → sum ≡ instructions_in (take i history) → sum ≡ instructions_in history
all_counted history i sum all before = before ∙ ap instructions_in (take_all i history all)
