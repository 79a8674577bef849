-- The table of scheduling steps: the result of each, and the events that it appends. The first line that fits is taken.
use Rattle.std.specs.Prelude.{◌≡◌, ◌≢◌, ◌⊎◌, ◌+◌, ◌≤◌, ◌==◌, Bool, true, false, not, ◌&&◌, if◌then◌else◌, List, [], ◌∷◌, ◌++◌, length, Option, Some, None, slice_get}
use Rattle.std.specs.FinMap.{get}
use Rattle.std.specs.Option.{option_and_then, option_map, option_or}
use Rattle.tw_types.specs.declared.actor.Actor.{Actor}
use Rattle.tw_types.specs.declared.ending.Ending.{Ending}
use Rattle.tw_types.specs.declared.ending.Ending.TheVariants as ending
use Rattle.tw_types.specs.declared.event.Event.{Event}
use Rattle.tw_types.specs.declared.event.Event.TheVariants.{Take, Local, Call, End, Ask, Deliver, Release}
use Rattle.tw_code.specs.declared.instr.Instr.{Instr}
use Rattle.tw_code.specs.declared.procedure.Procedure.{Procedure}
use Rattle.tw_code.specs.machine.Due.{IsDueFree, event_of}
use Rattle.tw_code.specs.machine.Ending.{ending}
use Rattle.tw_code.specs.machine.State.{Frame, State}
use Rattle.tw_frame.specs.Jobs.{DoneView, JobView}
use Rattle.tw_pool_state.specs.Memory.{EventTakes}
use Rattle.tw_pool.specs.declared.answer.Closing.{Closing}
use Rattle.tw_pool.specs.declared.answer.Closing.TheVariants.{Quiet, Stuck, Stopped, Limit}
use Rattle.tw_pool.specs.declared.answer.Turn.{Turn}
use Rattle.tw_pool.specs.declared.answer.Turn.TheVariants.{Over, Foreign, Owed, NoMemory, Run, Ended, Went, Idle}
use Rattle.tw_pool.specs.Actors.{events_of}
use Rattle.tw_pool.specs.PoolView.{PoolView, HasState, oldest_notice, with_events}

-- ---- the state before a step

-- returns why no event is made any more: the run has ended by itself, else it was stopped, else the limit is reached
abbrev pub closing_of : Ending → Closing
closing_of ending.Quiet = Quiet
closing_of (ending.Stuck rules) = Stuck rules

abbrev pub closing_at : PoolView → State → Option Closing
closing_at p s = option_or (option_map closing_of (ending s)) (if p.stopped then Some Stopped else if length p.history == p.limit then Some Limit else None)

-- returns the job that is issued to an actor: from its task's position, under the number of the actor's events
abbrev pub issued_to : PoolView → State → Actor → Option JobView
issued_to p s actor =
    option_map (λ (f : Frame). record { program = p.program; task = f.task; procedure = f.procedure; actor = actor; event_no = length (events_of actor p.history); position = f.position }) (get s.frames actor)

-- ---- the result and the events of a line

abbrev pub Line : Type 1
Line = Turn → List Event → Type 0

abbrev pub Answers : Turn → List Event → Line
Answers wanted appended answer events = (answer ≡ wanted) × (events ≡ appended)

-- holds for the job that is issued to the actor when these events are appended
abbrev pub Issues : PoolView → Actor → List Event → Line
Issues p actor appended answer events =
    (s : State) × HasState (with_events p appended) s × (job : JobView) × (issued_to (with_events p appended) s actor ≡ Some job) × Answers (Run job) appended answer events

-- an event that is made after these may allocate
pub record TakesMemory (p : PoolView) (before : List Event) (event : Event) : Type 0 where
  pub state : State
  pub has_state : HasState (with_events p before) state
  pub takes : EventTakes p.program.program state event

-- holds for the line; or an allocation fails in the event after `before`, nothing is appended, and a `Done` is returned
abbrev pub OrNoMemory : PoolView → Option DoneView → List Event → Event → Line → Line
OrNoMemory p given before event line answer events = line answer events ⊎ (TakesMemory p before event × Answers (NoMemory given) [] answer events)

abbrev pub Never : Line
Never answer events = ⊥

-- ---- the line of an event after others

abbrev pub Makes : PoolView → Actor → Option DoneView → List Event → Event → Line
Makes p actor given before (Take a) = OrNoMemory p given before (Take a) (Issues p actor (before ++ Take a ∷ []))
Makes p actor given before (Local a steps) = Never
Makes p actor given before (Call a) = OrNoMemory p given before (Call a) (Issues p actor (before ++ Call a ∷ []))
Makes p actor given before (End a) = Answers Ended (before ++ End a ∷ [])
Makes p actor given before (Ask engine rule parameter) = OrNoMemory p given before (Ask engine rule parameter) (Answers Went (before ++ Ask engine rule parameter ∷ []))
Makes p actor given before (Deliver server datum rule parameter) = Answers Went (before ++ Deliver server datum rule parameter ∷ [])
Makes p actor given before (Release engine rule) = OrNoMemory p given before (Release engine rule) (Answers Went (before ++ Release engine rule ∷ []))

-- ---- a `Done` of the issued job

-- returns the event of its steps, if there are any
abbrev pub steps_of : Actor → DoneView → List Event
steps_of actor done = if done.steps == 0 then [] else Local actor done.steps ∷ []

-- returns the instruction to which they lead
abbrev pub instr_after : List Procedure → DoneView → Option Instr
instr_after program done = option_and_then (λ (p : Procedure). slice_get p.code done.after.place) (slice_get program done.before.procedure)

-- returns whether two events are due, and only one fits the limit
abbrev pub is_last : PoolView → DoneView → Bool
is_last p done = not (done.steps == 0) && (length p.history + 1 == p.limit)

-- A short job is issued again: its `Done` has the values of the next one, so that nothing is allocated. Otherwise the
-- instruction after the steps is executed, if both events fit the limit.
abbrev pub TakesBack : Bool → Bool → PoolView → Actor → DoneView → Line
TakesBack true last p actor done = Issues p actor (steps_of actor done)
TakesBack false true p actor done = Answers (Over Limit) (steps_of actor done)
TakesBack false false p actor done = Makes p actor (Some done) (steps_of actor done) (event_of actor (instr_after p.program.program done))

-- ---- an actor without a job: a due event is made, or none is due

-- holds for a delivery of its server's oldest notice, and for any other event
abbrev pub IsOldest : PoolView → Event → Type 0
IsOldest p (Take actor) = Unit {0}
IsOldest p (Local actor steps) = Unit {0}
IsOldest p (Call actor) = Unit {0}
IsOldest p (End actor) = Unit {0}
IsOldest p (Ask engine rule parameter) = Unit {0}
IsOldest p (Deliver server datum rule parameter) = oldest_notice p server ≡ Some (record { datum = datum; rule = rule; parameter = parameter })
IsOldest p (Release engine rule) = Unit {0}

-- holds for a step of an actor without a job and without a `Done`
abbrev pub TurnsFree : PoolView → State → Actor → Line
TurnsFree p s actor answer events =
    ((due : Event) × IsDueFree p.layout actor s due × IsOldest p due × Makes p actor None [] due answer events)
    ⊎ (((due : Event) → IsDueFree p.layout actor s due → ⊥) × Answers Idle [] answer events)

-- ---- all lines

-- holds for a `Done` of the issued job, or of another
abbrev pub Submits : PoolView → Actor → JobView → DoneView → Line
Submits p actor job done answer events =
    ((done.before ≡ job) × TakesBack done.short (is_last p done) p actor done answer events) ⊎ ((done.before ≢ job) × Answers (Foreign done) [] answer events)

-- chooses the line by the issued job, and the `Done`
abbrev pub Turns : PoolView → State → Actor → Option JobView → Option DoneView → Line
Turns p s actor None None = TurnsFree p s actor
Turns p s actor None (Some done) = Answers (Foreign done) []
Turns p s actor (Some job) None = Answers Owed []
Turns p s actor (Some job) (Some done) = Submits p actor job done

-- chooses the line, unless the run is over
abbrev pub TurnsUnless : Option Closing → PoolView → State → Actor → Option DoneView → Line
TurnsUnless (Some closing) p s actor given = Answers (Over closing) []
TurnsUnless None p s actor given = Turns p s actor (issued_to p s actor) given

-- a line in the pool's state, and only its events are new
pub record IsTurnBy (line : State → Line) (old : PoolView) (answer : Turn) (new : PoolView) : Type 0 where
  pub state : State
  pub has_state : HasState old state
  pub events : List Event
  pub is : line state answer events
  pub appended : new ≡ with_events old events

-- holds for one scheduling step of an actor, with a `Done` or none
abbrev pub IsTurn : PoolView → Actor → Option DoneView → Turn → PoolView → Type 0
IsTurn old actor given answer new = IsTurnBy (λ s. TurnsUnless (closing_at old s) old s actor given) old answer new

-- a consequence for every step: one or two events at most, all of the actor
pub record AreOwn (actor : Actor) (events : List Event) : Type 0 where
  pub few : length events ≤ 2
  pub own : events_of actor events ≡ events
