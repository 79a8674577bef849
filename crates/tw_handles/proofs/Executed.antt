-- The instructions that a run executed, with those of a task that was cut off.
use Rattle.tw_handles.proofs.Names.{EndedRun, ap, arith, capped, cut_of, executed_in, instructions_in, min, ℕ, ◌+◌, ◌∙◌, ◌≡◌}

once : (a c : ℕ) → min (min a 18446744073709551615 + c) 18446744073709551615 ≡ min (a + c) 18446744073709551615
once a c = omega arith

pub all_executed : (left : EndedRun) (own cut sum : ℕ) → own ≡ capped (instructions_in left.history.events) → cut ≡ cut_of left.end → sum ≡ min (own + cut) 18446744073709551615 → sum ≡ capped (executed_in left)
all_executed left own cut sum own_is cut_is sum_is =
    let events = instructions_in left.history.events in
    sum_is ∙ (ap (λ n. min (n + cut) 18446744073709551615) own_is ∙ (once events cut ∙ ap capped (ap (λ n. events + n) cut_is)))
