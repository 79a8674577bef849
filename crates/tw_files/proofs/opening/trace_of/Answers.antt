use Rattle.std.proofs.Common.{List, ℕ, subst, sym}
use Rattle.tw_files.specs.Input.{HasEvents}
use Rattle.tw_files.proofs.opening.trace_of.Goals as goal

pub returns-in-Some-events_in-clause-bytes : goal.returns-in-Some-events_in-clause-bytes
returns-in-Some-events_in-clause-bytes g c =
    rw c.in-Some.is (
      c.in_ok-trace.trace.items,
      c.in_ok-trace.ensures.bytes,
      subst (λ (events : List ℕ). HasEvents c.in_ok-trace.trace.items events) (sym c.in_ok-events-in-Some-events_in.ensures.items)
          (subst (λ (trace : List ℕ). HasEvents trace c.in-Some-events_in.events.now) c.deref.ensures.value c.in-Some-events_in.ensures),
    )
