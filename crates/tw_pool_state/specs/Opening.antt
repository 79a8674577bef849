-- The parts of an opened program.
use Rattle.std.specs.Prelude.{◌≡◌, ◌<◌, ℕ, List}
use Rattle.std.specs.FinMap as fin
use Rattle.std.specs.FinMap.{get}
use Rattle.std.specs.FinSet as set
use Rattle.tw_types.specs.declared.input.Input.{Input}
use Rattle.tw_types.specs.Layout.{ActorCounts}
use Rattle.tw_types.specs.Store.{Store}
use Rattle.tw_rights.specs.Rights.{Right}
use Rattle.tw_store.specs.Served.{IsHere, Served}
use Rattle.tw_code.specs.machine.Opening.{opening}
use Rattle.tw_verify.specs.Typed.{TypedProgram}
use Rattle.tw_pool_state.specs.Fits.{AreParts}
use Rattle.tw_pool_state.specs.Parts.{state_of}
use Rattle.tw_pool_state.specs.declared.parts.Parts.{Parts}

-- the store is this one, with data added, and the right is on the first; earlier data keep their places, and no notice was
-- added
pub record IsAdded (added : Store) (old new : Served) (right : Right) : Type 0 where
  pub store : new.store ≡ added
  pub first : right.id ≡ old.store.next
  pub here : IsHere new right
  pub stays : (id : ℕ) → id < old.store.next → get new.places id ≡ get old.places id
  pub queues : new.queues ≡ old.queues

-- main waits, and no task runs
pub record IsOpening (verified : TypedProgram) (inputs : List Input) (layout : ActorCounts) (p : Parts) : Type 0 where
  pub state : state_of p set.empty ≡ opening verified.program inputs
  pub parts : AreParts verified layout p set.empty
  pub nobody : p.running_tasks.tasks ≡ fin.empty
