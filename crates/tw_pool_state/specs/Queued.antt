-- The queues of notices along the events of a run: what closes a datum appends its notices, and a delivery takes the first of its server's.
use Rattle.std.specs.Prelude.{ℕ, List, [], ◌∷◌, Option, Some, None, drop, replicate, slice_get, slice_set, unwrap_or}
use Rattle.std.specs.FinMap.{get}
use Rattle.std.specs.Option.{option_and_then, option_map}
use Rattle.tw_types.specs.declared.event.Event.{Event}
use Rattle.tw_types.specs.declared.event.Event.TheVariants.{Take, Local, Call, End, Ask, Deliver, Release}
use Rattle.tw_types.specs.declared.notice.Notice.{Notice}
use Rattle.tw_types.specs.Layout.{ActorCounts}
use Rattle.tw_types.specs.Outcome.{Outcome, Went, NotEnabled, Trap}
use Rattle.tw_types.specs.StoreCalls.{notices_of_stored, notices_of_write_dropped}
use Rattle.tw_store.specs.Served.{queued}
use Rattle.tw_code.specs.declared.instr.DataInstr.{DataInstr}
use Rattle.tw_code.specs.declared.instr.DataInstr.TheVariants as on_data
use Rattle.tw_code.specs.declared.instr.Instr.{Instr}
use Rattle.tw_code.specs.declared.instr.Instr.TheVariants as instr
use Rattle.tw_code.specs.declared.procedure.Procedure.{Procedure}
use Rattle.tw_code.specs.machine.Data.{Context}
use Rattle.tw_code.specs.machine.Due.{instr_here}
use Rattle.tw_code.specs.machine.Machine.{step}
use Rattle.tw_code.specs.machine.Rights.{right_at}
use Rattle.tw_code.specs.machine.State.{Frame, State, context_of}
use Rattle.tw_pool_state.specs.Notes.{queue_at}

abbrev pub Queues : Type 0
Queues = List (List Notice)

-- ---- an event

-- returns the notices of the datum that an instruction closes, by the order in which its subscribers asked
abbrev pub notices_made : DataInstr → Context → List Notice
notices_made (on_data.New write read ty) c = []
notices_made (on_data.Store datum from) c =
    unwrap_or (option_and_then (λ (id : ℕ). option_map (notices_of_stored c.store id) (slice_get c.position.values from)) (right_at c.rights datum)) []
notices_made (on_data.Get to datum) c = []
notices_made (on_data.Insert by container subscript member skip) c = []
notices_made (on_data.Look by member container subscript skip) c = []
notices_made (on_data.Size to container) c = []
notices_made (on_data.SubscriptAt by to container index skip) c = []
notices_made (on_data.InsertValue map subscript from skip) c = []
notices_made (on_data.AddValue map subscript from) c = []
notices_made (on_data.GetValue to map subscript skip) c = []
notices_made (on_data.CopyRead to from) c = []
notices_made (on_data.CopyWrite to from) c = []
notices_made (on_data.DropRead right) c = []
notices_made (on_data.DropWrite right) c = unwrap_or (option_map (notices_of_write_dropped c.store) (right_at c.rights right)) []

abbrev pub notices_of_instr : Option Instr → Context → List Notice
notices_of_instr None c = []
notices_of_instr (Some (instr.Local i)) c = []
notices_of_instr (Some (instr.Data d)) c = notices_made d c
notices_of_instr (Some (instr.Rule action)) c = []
notices_of_instr (Some (instr.Put action)) c = []
notices_of_instr (Some instr.Ret) c = []

-- returns those of the instruction at which an actor's task is
abbrev pub notices_of_call : List Procedure → State → Option Frame → List Notice
notices_of_call program s None = []
notices_of_call program s (Some frame) = notices_of_instr (instr_here program frame) (context_of s frame)

-- appends notices of one datum to the queue of its server
abbrev pub arrived : List Notice → Queues → Queues
arrived [] queues = queues
arrived (n ∷ more) queues = queued n.datum (n ∷ more) queues

-- returns the queues after an event in a state
abbrev pub queues_after : List Procedure → Event → State → Queues → Queues
queues_after program (Take actor) s queues = queues
queues_after program (Local actor steps) s queues = queues
queues_after program (Call actor) s queues = arrived (notices_of_call program s (get s.frames actor)) queues
queues_after program (End actor) s queues = queues
queues_after program (Ask engine rule parameter) s queues = queues
queues_after program (Deliver server datum rule parameter) s queues = slice_set queues server (drop 1 (queue_at queues server))
queues_after program (Release engine rule) s queues = queues

-- ---- events, one after the other

-- returns the queues after events from a state
abbrev pub queues_along : List Procedure → ActorCounts → List Event → State → Queues → Queues
queues_along program layout [] s queues = queues
queues_along program layout (event ∷ events) s queues = from (step program layout event s) (λ t. queues_along program layout events t (queues_after program event s queues))
  where
    from : Outcome State → (State → Queues) → Queues
    from (Went t) rest = rest t
    from NotEnabled rest = queues
    from (Trap cause) rest = queues

-- the queues before the first event
abbrev pub no_notices : ActorCounts → Queues
no_notices layout = replicate layout.servers []
