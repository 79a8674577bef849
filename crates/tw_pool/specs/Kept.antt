-- Invariants of the parts of every pool, with its events.
use Rattle.std.specs.Prelude.{◌≡◌, ◌≤◌, ℕ, List, Some, None, length}
use Rattle.std.specs.FinMap.{get}
use Rattle.tw_types.specs.declared.actor.Actor.{Actor}
use Rattle.tw_types.specs.declared.actor.Actor.TheVariants.{Engine, Server, Worker}
use Rattle.tw_types.specs.declared.event.Event.{Event}
use Rattle.tw_types.specs.declared.input.Input.{Input}
use Rattle.tw_types.specs.Layout.{ActorCounts}
use Rattle.tw_types.specs.Notices.{Notices}
use Rattle.tw_types.specs.Outcome.{Went}
use Rattle.tw_types.specs.Rule.{next_ask, next_release}
use Rattle.tw_code.specs.machine.Inputs.{AreInputsOf}
use Rattle.tw_code.specs.machine.Opening.{opening, reached}
use Rattle.tw_code.specs.machine.State.{State}
use Rattle.tw_verify.specs.Typed.{TypedProgram}
use Rattle.tw_frame.specs.Jobs.{DoneView, FrameView}
use Rattle.tw_pool_state.specs.Fits.{AreParts}
use Rattle.tw_pool_state.specs.Parts.{state_of}
use Rattle.tw_pool_state.specs.Queued.{no_notices, queues_along}
use Rattle.tw_pool_state.specs.RunningTasks.{TasksByActor}
use Rattle.tw_pool_state.specs.declared.parts.Parts.{Parts}
use Rattle.tw_pool.specs.Actors.{events_of}
use Rattle.tw_pool.specs.PoolView.{PoolView, HasState}
use Rattle.tw_pool.specs.Turns.{issued_to}

-- holds if each task was issued last under the number of its actor's events
abbrev pub AreIssued : List Event → TasksByActor → Type 0
AreIssued history running_tasks = (actor : Actor) (f : FrameView) → get running_tasks actor ≡ Some f → f.event_no ≡ length (events_of actor history)

-- the state of the parts is the one that the events reach
pub record IsKept (verified : TypedProgram) (inputs : List Input) (layout : ActorCounts) (limit : ℕ) (history : List Event) (p : Parts) : Type 0 where
  pub given : AreInputsOf verified.program inputs
  pub few : limit ≤ 1000000
  pub within : length history ≤ limit
  pub notices : Notices
  pub replays : reached verified.program inputs layout history ≡ Went (state_of p notices)
  pub parts : AreParts verified layout p notices
  pub queues : p.store.queues ≡ queues_along verified.program layout history (opening verified.program inputs) (no_notices layout)
  pub lent : AreIssued history p.running_tasks.tasks

-- holds if this is so in the pool's state
abbrev pub InState : PoolView → (State → Type 0) → Type 0
InState p Holds = (s : State) → HasState p s → Holds s

abbrev pub IsFree : PoolView → Actor → Type 0
IsFree p actor = InState p (λ s. get s.frames actor ≡ None)

-- holds if no Ask is due to the engine
abbrev pub HasNoAsk : PoolView → ℕ → Type 0
HasNoAsk p engine = InState p (λ s. next_ask engine s.rules ≡ None)

-- holds if no Release is due to the engine
abbrev pub HasNoRelease : PoolView → ℕ → Type 0
HasNoRelease p engine = InState p (λ s. next_release engine s.rules ≡ None)

-- holds if the actor has nothing to do before it takes a task
abbrev pub MayTakeNow : PoolView → Actor → Type 0
MayTakeNow p (Engine engine) = HasNoAsk p engine × HasNoRelease p engine
MayTakeNow p (Server server) = ⊥
MayTakeNow p (Worker worker) = Unit {0}

-- holds if the `Done` is of the job that is issued to the actor
abbrev pub IsOwedBy : PoolView → Actor → DoneView → Type 0
IsOwedBy p actor done = InState p (λ s. issued_to p s actor ≡ Some done.before)
