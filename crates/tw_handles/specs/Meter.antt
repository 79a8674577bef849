-- The meter of a run: how much it did, and what its store held at the end.
use Rattle.std.specs.Prelude.{◌-◌, ◌∷◌}
use Rattle.tw_handles.specs.Names.{[], ℕ, List, length, EndedRun}
use Rattle.tw_bounds.specs.Runs.{tasks_in}
use Rattle.tw_store.specs.Amounts.{amounts_in}
use Rattle.tw_handles.specs.Texts.{executed}

-- returns the numbers of events, of tasks that they took, of instructions that were executed, also by a task that was cut off, and of data that were made, with the opening's. Members
-- and bytes of texts are those in the store at the end.
abbrev pub meter_of : EndedRun → List ℕ
meter_of left =
    let events = left.history.events in
    let store = left.outcome.store.store in
    length events ∷ tasks_in events ∷ executed left ∷ (store.next - 1) ∷ (amounts_in store.live).members ∷ (amounts_in store.live).bytes ∷ []
