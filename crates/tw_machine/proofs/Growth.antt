-- Numbers and counts stay small after an event.
use Rattle.tw_machine.proofs.Names.{ActorCounts, AreBelow, Changes, Err, List, Ok, Procedure, Result, State, Stopped, arith, below_more, size_of, step, step_grows, subst, sym, ℕ, ◌+◌}
use Rattle.tw_types.specs.declared.event.Event.{Event}

module _ (program : List Procedure) (layout : ActorCounts) (event : Event) (old new : State) (bound : ℕ) where
  pub changes_below : (made : Result (Unit {0}) Stopped) → Changes (step program layout event old) old made new → AreBelow bound old → AreBelow (bound + size_of event) new
  changes_below (Ok x) h below = (step_grows program layout event).all bound old new below h
  changes_below (Err why) h below = subst (λ (s : State). AreBelow (bound + size_of event) s) (sym h.1) (below_more bound (bound + size_of event) old (omega arith) below)
