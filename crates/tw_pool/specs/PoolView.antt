-- The model of a pool.
use Rattle.std.specs.Prelude.{◌≡◌, ℕ, Bool, List, ◌++◌, Option, slice_get}
use Rattle.tw_types.specs.declared.event.Event.{Event}
use Rattle.tw_types.specs.declared.input.Input.{Input}
use Rattle.tw_types.specs.declared.notice.Notice.{Notice}
use Rattle.tw_types.specs.Layout.{ActorCounts}
use Rattle.tw_types.specs.Outcome.{Went}
use Rattle.tw_code.specs.machine.Opening.{opening, reached}
use Rattle.tw_code.specs.machine.State.{State}
use Rattle.tw_verify.specs.Typed.{TypedProgram}
use Rattle.tw_pool_state.specs.Notes.{queue_at}
use Rattle.tw_pool_state.specs.Queued.{Queues, no_notices, queues_along}

-- the program and its inputs, the limit of events, whether the run was stopped, and the events
pub record PoolView : Type 0 where
  pub program : TypedProgram
  pub inputs : List Input
  pub layout : ActorCounts
  pub limit : ℕ
  pub stopped : Bool
  pub history : List Event

-- holds for its state: the machine's, which the events reach from the opening
abbrev pub HasState : PoolView → State → Type 0
HasState p s = reached p.program.program p.inputs p.layout p.history ≡ Went s

-- returns its queues of notices: those that the events make, from none on
abbrev pub queues_of : PoolView → Queues
queues_of p = queues_along p.program.program p.layout p.history (opening p.program.program p.inputs) (no_notices p.layout)

-- returns the notice that has waited longest for its server
abbrev pub oldest_notice : PoolView → ℕ → Option Notice
oldest_notice p server = slice_get (queue_at (queues_of p) server) 0

-- appends these events
abbrev pub with_events : PoolView → List Event → PoolView
with_events p events = record p { history = p.history ++ events }
