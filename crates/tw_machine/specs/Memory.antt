-- Which events allocate, and when. An allocation fails in no other event.
use Rattle.std.specs.Prelude.{◌≡◌, ℕ, true, false, List}
use Rattle.tw_types.specs.declared.actor.Actor.{Actor}
use Rattle.tw_types.specs.declared.event.Event.{Event}
use Rattle.tw_types.specs.declared.event.Event.TheVariants.{Take, Local, Call, End, Ask, Deliver, Release}
use Rattle.tw_types.specs.Layout.{ActorCounts}
use Rattle.tw_types.specs.Outcome.{Outcome, Went, NotEnabled, Trap}
use Rattle.tw_types.specs.Rule.{Rule}
use Rattle.tw_types.specs.Store.{Datum, is_closed}
use Rattle.tw_code.specs.declared.instr.Instr.{Instr}
use Rattle.tw_code.specs.declared.instr.Instr.TheVariants as instr
use Rattle.tw_code.specs.declared.procedure.Procedure.{Procedure}
use Rattle.tw_code.specs.machine.Machine.{RunningInstr, ask_event, asked, call_event, release_event, running_instr_of, take_event}
use Rattle.tw_code.specs.machine.State.{State}
use Rattle.tw_instr.specs.Memory.{takes_memory}

-- ---- results of an event

-- holds if it succeeds
abbrev pub Succeeds : {A : Type 0} → Outcome A → Type 0
Succeeds (Went x) = Unit {0}
Succeeds NotEnabled = ⊥
Succeeds (Trap cause) = ⊥

-- holds if it succeeds or traps
abbrev pub IsEnabled : {A : Type 0} → Outcome A → Type 0
IsEnabled (Went x) = Unit {0}
IsEnabled NotEnabled = ⊥
IsEnabled (Trap cause) = Unit {0}

-- ---- instructions

abbrev pub IsLocal : Instr → Type 0
IsLocal (instr.Local i) = Unit {0}
IsLocal (instr.Data i) = ⊥
IsLocal (instr.Rule action) = ⊥
IsLocal (instr.Put action) = ⊥
IsLocal instr.Ret = ⊥

-- holds if the instruction may allocate: one on data allocates after all its checks, RULE and PUT copy their arguments before
abbrev pub CallTakesMemory : Outcome State → Instr → Type 0
CallTakesMemory o (instr.Local i) = ⊥
CallTakesMemory o (instr.Data i) = (takes_memory i ≡ true) × Succeeds o
CallTakesMemory o (instr.Rule action) = Unit {0}
CallTakesMemory o (instr.Put action) = Unit {0}
CallTakesMemory o instr.Ret = ⊥

-- holds if a task runs there, and P holds of its next instruction
abbrev pub NextIs : (Instr → Type 0) → Outcome RunningInstr → Type 0
NextIs P (Went at) = P at.instr
NextIs P NotEnabled = ⊥
NextIs P (Trap cause) = ⊥

-- holds if the next instruction of the actor's task may allocate
abbrev pub MayAllocate : List Procedure → Actor → State → Type 0
MayAllocate program actor s = NextIs (CallTakesMemory (call_event program actor s)) (running_instr_of program actor s)

-- ---- events

-- holds if the engine asks for an open datum, which gets a subscriber
abbrev pub IsAskOfOpen : ℕ → ℕ → ℕ → State → Type 0
IsAskOfOpen engine number parameter s =
    (rule : Rule) × (id : ℕ) × (x : Datum) × (ask_event engine number parameter s ≡ Went (asked s number rule parameter id x)) × (is_closed x ≡ false)

-- Holds if the event may allocate. A Take copies values while it checks their types, and local instructions change a copy of the position.
abbrev pub TakesMemory : List Procedure → ActorCounts → Event → State → Type 0
TakesMemory program layout (Take actor) s = IsEnabled (take_event program layout actor s)
TakesMemory program layout (Local actor n) s = NextIs IsLocal (running_instr_of program actor s)
TakesMemory program layout (Call actor) s = MayAllocate program actor s
TakesMemory program layout (End actor) s = ⊥
TakesMemory program layout (Ask engine number parameter) s = IsAskOfOpen engine number parameter s
TakesMemory program layout (Deliver server datum rule parameter) s = ⊥
TakesMemory program layout (Release engine number) s = Succeeds (release_event program engine number s)
