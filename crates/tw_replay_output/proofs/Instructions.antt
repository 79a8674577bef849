-- The instructions of one event more.
use Rattle.std.proofs.Common.{◌≡◌, ◌≤◌, ◌<◌, ◌+◌, ◌∙◌, ℕ, List, length, take, get_or, sym, ap}
use Rattle.std.proofs.lemmas.List.{take_all}
use Rattle.std.proofs.lemmas.List.Sums.{sum_by_more}
use Rattle.tw_replay_output.proofs.ReplayNames.{Event}
use Rattle.tw_bounds.specs.Runs.{instructions_by, instructions_in}

pub next_counted : (events : List Event) (i : ℕ) (e : Event) (old new : ℕ) → i < length events → e ≡ get_or events i e → old ≡ instructions_in (take i events) → new ≡ old + instructions_by e → new ≡ instructions_in (take (i + 1) events)
next_counted events i e old new inside is before made =
    made ∙ ap (λ (n : ℕ). n + instructions_by e) before
    ∙ sym (sum_by_more instructions_by events i e inside ∙ ap (λ (x : Event). instructions_in (take i events) + instructions_by x) (sym is))

pub all_counted : (events : List Event) (i : ℕ) (sum : ℕ) → length events ≤ i → sum ≡ instructions_in (take i events) → sum ≡ instructions_in events
all_counted events i sum all before = before ∙ ap instructions_in (take_all i events all)
