-- The tasks of one event more.
use Rattle.tw_handles.proofs.Names.{Event, List, Some, ap, arith, get_or_from_slice_get, length, slice_get, slice_get_within, sym, take, take_all, tasks_by, tasks_in, ℕ, ◌+◌, ◌∙◌, ◌≡◌, ◌≤◌}
use Rattle.std.proofs.lemmas.List.Sums.{sum_by_more}
use Rattle.tw_types.specs.declared.event.Event.TheVariants.{Take, Local, Call, End, Ask, Deliver, Release}

pub at_most_one : (e : Event) → tasks_by e ≤ 1
at_most_one (Take actor) = omega arith
at_most_one (Local actor n) = omega arith
at_most_one (Call actor) = omega arith
at_most_one (End actor) = omega arith
at_most_one (Ask engine rule parameter) = omega arith
at_most_one (Deliver server datum rule parameter) = omega arith
at_most_one (Release engine rule) = omega arith

pub one_more : (history : List Event) (i : ℕ) (e : Event) (old new : ℕ) → old ≡ tasks_in (take i history) → slice_get history i ≡ Some e → new ≡ old + tasks_by e → new ≡ tasks_in (take (i + 1) history)
one_more history i e old new before at made =
    made ∙ ap (λ (n : ℕ). n + tasks_by e) before
    ∙ sym (sum_by_more tasks_by history i e (slice_get_within history i e at) ∙ ap (λ (x : Event). tasks_in (take i history) + tasks_by x) (get_or_from_slice_get history i e e at))

pub all_counted : (history : List Event) (i : ℕ) (sum : ℕ) → length history ≤ i → sum ≡ tasks_in (take i history) → sum ≡ tasks_in history
all_counted history i sum all before = before ∙ ap tasks_in (take_all i history all)
