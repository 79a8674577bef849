-- Events and instructions that may allocate. An allocation fails in no other event.
use Rattle.std.specs.Prelude.{◌≡◌, ◌⊎◌, ◌<◌, ℕ, ℤ, false, List, Option, Some, None, slice_get}
use Rattle.std.specs.FinMap.{get}
use Rattle.tw_types.specs.declared.actor.Actor.{Actor}
use Rattle.tw_types.specs.declared.data_type.Scalar.TheVariants as scalar
use Rattle.tw_types.specs.declared.event.Event.{Event}
use Rattle.tw_types.specs.declared.event.Event.TheVariants as event
use Rattle.tw_types.specs.declared.value.Value.{Value}
use Rattle.tw_types.specs.declared.value.Value.TheVariants as value
use Rattle.tw_types.specs.Rule.{Rule}
use Rattle.tw_types.specs.Store.{Datum, Store, is_closed}
use Rattle.tw_types.specs.StoreCalls.{entry_at, member_at, subscript_after, subscripts_at}
use Rattle.tw_types.specs.Task.{RightArg, TaskOf, best}
use Rattle.tw_types.specs.ValueOrder.{Subscript}
use Rattle.tw_store.specs.Served.{Served, waiting_for}
use Rattle.tw_code.specs.declared.instr.DataInstr.{DataInstr}
use Rattle.tw_code.specs.declared.instr.DataInstr.TheVariants as on_data
use Rattle.tw_code.specs.declared.instr.Instr.{Instr}
use Rattle.tw_code.specs.declared.instr.Instr.TheVariants as instr
use Rattle.tw_code.specs.declared.procedure.Procedure.{Procedure}
use Rattle.tw_code.specs.machine.Due.{instr_here}
use Rattle.tw_code.specs.machine.Rights.{right_at}
use Rattle.tw_code.specs.machine.State.{Frame, State}
use Rattle.tw_frame.specs.Drafts.{HasTexts}
use Rattle.tw_frame.specs.Jobs.{FrameView, bare_frame}

-- ---- the state at an instruction

-- holds if the register has a text
abbrev pub IsTextAt : List Value → ℕ → Type 0
IsTextAt values register = (text : List ℕ) × (slice_get values register ≡ Some (value.Text text))

-- holds if a rule waits for the datum of the right
abbrev pub IsAwaited : Store → Frame → ℕ → Type 0
IsAwaited s f register = (id : ℕ) × (right_at f.rights register ≡ Some id) × (0 < waiting_for (get s.live id))

-- holds if the container has no member at the subscript
abbrev pub IsAbsent : Store → Frame → ℕ → ℕ → Type 0
IsAbsent s f container subscript = (id : ℕ) × (k : Subscript) × (right_at f.rights container ≡ Some id) × (slice_get f.position.values subscript ≡ Some k) × (member_at s id k ≡ None)

-- holds if the map has no value at the subscript
abbrev pub IsValueAbsent : Store → Frame → ℕ → ℕ → Type 0
IsValueAbsent s f map subscript = (id : ℕ) × (k : Subscript) × (right_at f.rights map ≡ Some id) × (slice_get f.position.values subscript ≡ Some k) × (entry_at s id k ≡ None)

-- holds if the container or the map has a subscript with so many smaller ones
abbrev pub HasThatMany : Store → Frame → ℕ → ℕ → Type 0
HasThatMany s f container index = (id : ℕ) × (count : ℤ) × (k : Subscript) × (right_at f.rights container ≡ Some id) × (slice_get f.position.values index ≡ Some (value.Int count))
    × (subscript_after count (subscripts_at s id) ≡ Some k)

-- ---- an instruction

-- Holds if an instruction on data may allocate, when `room` more data fit: for a datum beyond those, for copies of a text, for
-- notices, or for one more member or value. A sum may need memory for its subscript, too.
abbrev pub DataTakes : DataInstr → ℕ → Store → Frame → Type 0
DataTakes (on_data.New write read ty) room s f = room ≡ 0
DataTakes (on_data.Store datum from) room s f = IsTextAt f.position.values from ⊎ IsAwaited s f datum
DataTakes (on_data.Get to datum) room s f = IsTextAt f.position.values to
DataTakes (on_data.Insert by container subscript member skip) room s f = IsAbsent s f container subscript
DataTakes (on_data.Look by member container subscript skip) room s f = ⊥
DataTakes (on_data.Size to container) room s f = ⊥
DataTakes (on_data.SubscriptAt by to container index skip) room s f = (by ≡ scalar.Text) × HasThatMany s f container index
DataTakes (on_data.InsertValue map subscript from skip) room s f = IsValueAbsent s f map subscript
DataTakes (on_data.AddValue map subscript from) room s f = Unit {0}
DataTakes (on_data.GetValue to map subscript skip) room s f = IsTextAt f.position.values to
DataTakes (on_data.CopyRead to from) room s f = ⊥
DataTakes (on_data.CopyWrite to from) room s f = ⊥
DataTakes (on_data.DropRead right) room s f = ⊥
DataTakes (on_data.DropWrite right) room s f = IsAwaited s f right

abbrev pub TakesMemory : DataInstr → Served → FrameView → Type 0
TakesMemory d s f = DataTakes d s.data_room s.store (bare_frame f)

-- holds if an instruction may allocate: RULE and PUT do for what they add
abbrev pub InstrTakes : Instr → Store → Frame → Type 0
InstrTakes (instr.Local i) s f = ⊥
InstrTakes (instr.Data d) s f = (room : ℕ) × DataTakes d room s f
InstrTakes (instr.Rule action) s f = Unit {0}
InstrTakes (instr.Put action) s f = Unit {0}
InstrTakes instr.Ret s f = ⊥

-- holds like InstrTakes, for the data that fit the store's memory
abbrev pub CallTakes : Instr → Served → FrameView → Type 0
CallTakes (instr.Local i) s f = ⊥
CallTakes (instr.Data d) s f = TakesMemory d s f
CallTakes (instr.Rule action) s f = Unit {0}
CallTakes (instr.Put action) s f = Unit {0}
CallTakes instr.Ret s f = ⊥

-- ---- an event

-- the task that is taken is of a procedure with texts
pub record TakesTexts {A : Type 0} (program : List Procedure) (due : Option (ℕ × TaskOf A)) : Type 0 where
  pub e : ℕ × TaskOf A
  pub is : due ≡ Some e
  pub texts : HasTexts program e.1.procedure

-- the actor's task is at an instruction that may allocate
pub record IsAtAllocating (program : List Procedure) (s : State) (actor : Actor) : Type 0 where
  pub frame : Frame
  pub runs : get s.frames actor ≡ Some frame
  pub here : Instr
  pub is : instr_here program frame ≡ Some here
  pub takes : InstrTakes here s.store frame

-- the rule's parameter is an open datum, which gets a subscriber
pub record IsAskOfOpen (s : State) (number parameter : ℕ) : Type 0 where
  pub rule : Rule
  pub pends : get s.rules number ≡ Some rule
  pub id : ℕ
  pub asks : slice_get rule.args parameter ≡ Some (RightArg id)
  pub x : Datum
  pub live : get s.store.live id ≡ Some x
  pub not_closed : is_closed x ≡ false

-- holds if an event may allocate: a release reserves memory for the task in its queue
abbrev pub EventTakes : List Procedure → State → Event → Type 0
EventTakes program s (event.Take actor) = TakesTexts program (best actor s.tasks)
EventTakes program s (event.Local actor steps) = ⊥
EventTakes program s (event.Call actor) = IsAtAllocating program s actor
EventTakes program s (event.End actor) = ⊥
EventTakes program s (event.Ask engine rule parameter) = IsAskOfOpen s rule parameter
EventTakes program s (event.Deliver server datum rule parameter) = ⊥
EventTakes program s (event.Release engine rule) = Unit {0}
