-- Which data and tasks an event may change, and with which right.
use Rattle.std.specs.Prelude.{◌≡◌, ◌≢◌, ◌<◌, ◌⊎◌, ℕ, true, List, Option, Some, None}
use Rattle.std.specs.FinMap.{get}
use Rattle.tw_types.specs.declared.actor.Actor.{Actor}
use Rattle.tw_types.specs.declared.event.Event.{Event}
use Rattle.tw_types.specs.declared.event.Event.TheVariants.{Call}
use Rattle.tw_types.specs.Layout.{ActorCounts}
use Rattle.tw_types.specs.Mode.{is_write}
use Rattle.tw_types.specs.Outcome.{Went}
use Rattle.tw_types.specs.Store.{Datum}
use Rattle.tw_code.specs.declared.instr.DataInstr.{DataInstr}
use Rattle.tw_code.specs.declared.instr.DataInstr.TheVariants as on_data
use Rattle.tw_code.specs.declared.instr.Instr.TheVariants as instr
use Rattle.tw_code.specs.declared.procedure.Procedure.{Procedure}
use Rattle.tw_code.specs.machine.History.{actor_of}
use Rattle.tw_code.specs.machine.Holders.{Typings, typing_of}
use Rattle.tw_code.specs.machine.Machine.{RunningInstr, running_instr_of, step}
use Rattle.tw_code.specs.machine.Rights.{RightType, right_at}
use Rattle.tw_code.specs.machine.State.{Frame, State}
use Rattle.tw_soundness.specs.NoTrap.{AreRight}

-- returns the register of the datum whose content an instruction changes: STORE, INS, TINS, MINS and MADD change one
abbrev pub changed_register : DataInstr → Option ℕ
changed_register (on_data.New write read ty) = None
changed_register (on_data.Store datum from) = Some datum
changed_register (on_data.Get to datum) = None
changed_register (on_data.Insert by container subscript member skip) = Some container
changed_register (on_data.Look by member container subscript skip) = None
changed_register (on_data.Size to container) = None
changed_register (on_data.SubscriptAt by to container index skip) = None
changed_register (on_data.InsertValue map subscript from skip) = Some map
changed_register (on_data.AddValue map subscript from) = Some map
changed_register (on_data.GetValue to map subscript skip) = None
changed_register (on_data.CopyRead to from) = None
changed_register (on_data.CopyWrite to from) = None
changed_register (on_data.DropRead right) = None
changed_register (on_data.DropWrite right) = None

-- the event executes such an instruction, whose register has the datum's id
pub record ChangesContent (program : List Procedure) (event : Event) (s : State) (id : ℕ) : Type 0 where
  pub actor : Actor
  pub is : event ≡ Call actor
  pub at : RunningInstr
  pub runs : running_instr_of program actor s ≡ Went at
  pub executed : DataInstr
  pub here : at.instr ≡ instr.Data executed
  pub register : ℕ
  pub changed : changed_register executed ≡ Some register
  pub holds : right_at at.frame.rights register ≡ Some id

-- A datum that was made before the event, and is live after it, was live before, with its type. It had its content, too, unless the
-- event changes it as above. The tasks on other actors stay as they were.
pub record IsIsolated (program : List Procedure) (event : Event) (s t : State) : Type 0 where
  pub kept : (id : ℕ) (y : Datum) → id < s.store.next → get t.store.live id ≡ Some y
      → (x : Datum) × (get s.store.live id ≡ Some x) × (y.ty ≡ x.ty) × ((y.content ≡ x.content) ⊎ ChangesContent program event s id)
  pub frames : (actor : Actor) → actor ≢ actor_of event → get t.frames actor ≡ get s.frames actor

-- holds of each event that succeeds, in any state
abbrev pub AreIsolated : Type 0
AreIsolated = (program : List Procedure) (layout : ActorCounts) (event : Event) (s t : State) → step program layout event s ≡ Went t → IsIsolated program event s t

-- the typing of the task's place has a write right in the register
abbrev pub HasWriteRight : Typings → Frame → ℕ → Type 0
HasWriteRight typings frame register = (right : RightType) × (right_at (typing_of typings frame) register ≡ Some right) × (is_write right.mode ≡ true)

-- in an accepted program, whatever changes a content has a write right on the datum
abbrev pub ChangesByWriteRight : Type 0
ChangesByWriteRight = (program : List Procedure) (typings : Typings) (event : Event) (s : State) (id : ℕ) → AreRight program typings → (c : ChangesContent program event s id) → HasWriteRight typings c.at.frame c.register
