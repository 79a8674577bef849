-- Events as functions on the parts that they change, for any rest of the state.
use Rattle.std.specs.Prelude.{◌≡◌, ◌<◌, ◌^◌, ℕ, List, Some, Result, Ok, Err}
use Rattle.std.specs.FinMap.{get}
use Rattle.tw_types.specs.declared.actor.Actor.{Actor}
use Rattle.tw_types.specs.declared.cause.Cause.{Cause}
use Rattle.tw_types.specs.Outcome.{Outcome, Went}
use Rattle.tw_types.specs.Result.{◌>>=◌}
use Rattle.tw_code.specs.declared.instr.Instr.{Instr}
use Rattle.tw_code.specs.declared.instr.Instr.TheVariants.{Local as LOCAL}
use Rattle.tw_code.specs.declared.instr.LocalInstr.{LocalInstr}
use Rattle.tw_code.specs.declared.procedure.Procedure.{Procedure}
use Rattle.tw_code.specs.machine.Arguments.{procedure_of}
use Rattle.tw_code.specs.machine.Machine.{call_by, instr_at}
use Rattle.tw_code.specs.machine.State.{Frame, Frames, State, with_frame}
use Rattle.tw_instr.specs.declared.stopped.Stopped.{Stopped}
use Rattle.tw_instr.specs.Attempts.{Changes, IsStopped}
use Rattle.tw_instr.specs.Room.{HasRoom}
use Rattle.tw_machine.specs.Waiting.{TaskTable}
use Rattle.tw_machine.specs.declared.tables.Tables.{Tables}

-- ---- a state with other parts

abbrev pub with_frames : State → Frames → State
with_frames s frames = record s { frames = frames }

abbrev pub with_tasks : State → TaskTable → State
with_tasks s tasks = record s { tasks = tasks.waiting; next_task = tasks.next }

abbrev pub with_tables : State → Tables → State
with_tables s t = record s { store = t.store; rules = t.rules.pending; next_rule = t.rules.next; tasks = t.tasks.waiting; next_task = t.tasks.next; notices = t.notices }

-- the next numbers, counts and numbers of members are below 2^63
pub record HaveRoom (t : Tables) : Type 0 where
  pub store : HasRoom t.store
  pub rule : t.rules.next < 2 ^ 63
  pub task : t.tasks.next < 2 ^ 63

-- ---- results of a frame's events

-- returns the instruction at the place of a frame
abbrev pub instr_of : List Procedure → Frame → Result Instr Cause
instr_of program frame = do
  p ← procedure_of program frame.procedure
  instr_at p.code frame.position.place

-- holds if there is a local instruction at the place
abbrev pub IsLocalAt : List Instr → ℕ → Type 0
IsLocalAt code place = (i : LocalInstr) × (instr_at code place ≡ Ok (LOCAL i))

-- holds if, in each state where the actor has this frame, the event leaves the state with the other frame; or it fails, and the frame
-- doesn't change
abbrev pub LeavesFrame : (Actor → State → Outcome State) → Frame → Result (Unit {0}) Stopped → Frame → Type 0
LeavesFrame event f (Ok _) g = (s : State) (actor : Actor) → get s.frames actor ≡ Some f → event actor s ≡ Went (with_frame s actor g)
LeavesFrame event f (Err why) g = ((s : State) (actor : Actor) → get s.frames actor ≡ Some f → IsStopped (event actor s) why) × (g ≡ f)

-- holds if the instruction that is next in the actor's frame leaves these tables and this frame; or it fails, and they don't change
abbrev pub CallLeaves : List Procedure → Actor → Procedure → Instr → Tables → Frame → Result (Unit {0}) Stopped → Tables → Frame → Type 0
CallLeaves program actor p i t f (Ok _) u g = (s : State) → call_by program (with_tables s t) actor (record { frame = f; procedure = p; instr = i }) i ≡ Went (with_frame (with_tables s u) actor g)
CallLeaves program actor p i t f (Err why) u g = ((s : State) → IsStopped (call_by program (with_tables s t) actor (record { frame = f; procedure = p; instr = i }) i) why) × (u ≡ t) × (g ≡ f)

-- holds if, in each state where the actor has this frame, with these tables, the event leaves the other ones; or it fails
abbrev pub LeavesTables : (State → Outcome State) → Actor → Tables → Frame → Result (Unit {0}) Stopped → Tables → Frame → Type 0
LeavesTables event actor t f (Ok _) u g = (s : State) → get s.frames actor ≡ Some f → event (with_tables s t) ≡ Went (with_frame (with_tables s u) actor g)
LeavesTables event actor t f (Err why) u g = ((s : State) → get s.frames actor ≡ Some f → IsStopped (event (with_tables s t)) why) × (u ≡ t) × (g ≡ f)

-- ---- results of events in each state with these parts

-- holds if, in each state with these frames, the event leaves the other frames; or it fails
abbrev pub LeavesFrames : (State → Outcome State) → Frames → Result (Unit {0}) Stopped → Frames → Type 0
LeavesFrames event frames result left = (s : State) → Changes (event (with_frames s frames)) (with_frames s frames) result (with_frames s left)

-- like `LeavesFrames`, for an event that leaves the frames as they are
abbrev pub TablesChange : (State → Outcome State) → Frames → Tables → Result (Unit {0}) Stopped → Tables → Type 0
TablesChange event frames t result u = (s : State) → Changes (event (with_frames (with_tables s t) frames)) (with_frames (with_tables s t) frames) result (with_frames (with_tables s u) frames)
