-- The invariant of each state that an accepted program reaches, in parts.
use Rattle.std.specs.Prelude.{◌≡◌, ℕ, ◌+◌, ◌<◌, true, List, [], ◌∷◌, Option, Some, None, slice_get}
use Rattle.std.specs.FinMap.{get}
use Rattle.tw_types.specs.declared.actor.Actor.{Actor}
use Rattle.tw_types.specs.declared.data_type.Scalar.{Scalar}
use Rattle.tw_types.specs.declared.param.Param.{Param}
use Rattle.tw_types.specs.declared.stage.Stage.{Stage}
use Rattle.tw_types.specs.declared.value.Value.{Value}
use Rattle.tw_types.specs.Counts.{Balanced, HaveWriters}
use Rattle.tw_types.specs.Store.{Datum, Store, is_closed}
use Rattle.tw_types.specs.Mode.{is_closed_mode}
use Rattle.tw_types.specs.Rule.{Rule}
use Rattle.tw_types.specs.Task.{Arg, ValueArg, RightArg, Task}
use Rattle.tw_types.specs.TypedStore.{IsTypedStore}
use Rattle.tw_types.specs.Value.{scalar_of}
use Rattle.tw_code.specs.declared.flow.Flow.{Flow}
use Rattle.tw_code.specs.declared.flow.Flow.TheVariants.{Begin}
use Rattle.tw_code.specs.declared.procedure.Procedure.{Procedure}
use Rattle.tw_code.specs.accepting.Flow.{flows}
use Rattle.tw_code.specs.accepting.Walk.{IsBudget}
use Rattle.tw_code.specs.machine.Holders.{Typings, typing_of, reads_of, writes_of}
use Rattle.tw_code.specs.machine.Position.{Loop}
use Rattle.tw_code.specs.machine.Rights.{RightType, Rights, Typing, right_of}
use Rattle.tw_code.specs.machine.State.{Frame, State}
use Rattle.tw_budget.specs.Frames.{IsWithinBudget}
use Rattle.tw_soundness.specs.InOrder.{is_asked_for, right_until}
use Rattle.tw_soundness.specs.Noticed.{NoticesHeld}

-- ---- values and rights that fit

-- the id is in use, and if its datum is live, it is of the right's type, and closed if the right is `closed`
pub record Holds (s : Store) (right : RightType) (id : ℕ) : Type 0 where
  pub given : id < s.next
  pub ty : (x : Datum) → get s.live id ≡ Some x → x.ty ≡ right.ty
  pub closed : (x : Datum) → get s.live id ≡ Some x → is_closed_mode right.mode ≡ true → is_closed x ≡ true

abbrev pub RightFits : Store → Option RightType → Option ℕ → Type 0
RightFits s None None = Unit {0}
RightFits s None (Some id) = ⊥
RightFits s (Some right) None = ⊥
RightFits s (Some right) (Some id) = Holds s right id

-- holds if a right register is empty if its typing is, and has such an id otherwise
abbrev pub RightsFit : Store → Typing → Rights → Type 0
RightsFit s [] [] = Unit {0}
RightsFit s [] (id ∷ rights) = ⊥
RightsFit s (t ∷ typing) [] = ⊥
RightsFit s (t ∷ typing) (id ∷ rights) = RightFits s t id × RightsFit s typing rights

-- holds if a value register has a value of its type
abbrev pub ValuesFit : List Scalar → List Value → Type 0
ValuesFit [] [] = Unit {0}
ValuesFit [] (x ∷ values) = ⊥
ValuesFit (ty ∷ registers) [] = ⊥
ValuesFit (ty ∷ registers) (x ∷ values) = (scalar_of x ≡ ty) × ValuesFit registers values

-- holds if an argument is a value of the parameter's type, or the id of such a datum
abbrev pub ArgFits : Store → Param → Option RightType → Arg → Type 0
ArgFits s p None (ValueArg x) = scalar_of x ≡ p.ty.scalar
ArgFits s p None (RightArg id) = ⊥
ArgFits s p (Some right) (ValueArg x) = ⊥
ArgFits s p (Some right) (RightArg id) = Holds s right id

-- holds if there is one for each parameter
abbrev pub ArgsFit : Store → List Param → List Arg → Type 0
ArgsFit s [] [] = Unit {0}
ArgsFit s [] (arg ∷ args) = ⊥
ArgsFit s (p ∷ params) [] = ⊥
ArgsFit s (p ∷ params) (arg ∷ args) = ArgFits s p (right_of p) arg × ArgsFit s params args

-- holds if there is an argument and a stage for each parameter
abbrev pub RuleArgsFit : Store → List Param → List Stage → List Arg → Type 0
RuleArgsFit s [] [] [] = Unit {0}
RuleArgsFit s [] [] (arg ∷ args) = ⊥
RuleArgsFit s [] (stage ∷ stages) args = ⊥
RuleArgsFit s (p ∷ params) [] args = ⊥
RuleArgsFit s (p ∷ params) (stage ∷ stages) [] = ⊥
RuleArgsFit s (p ∷ params) (stage ∷ stages) (arg ∷ args) =
    (is_asked_for stage ≡ is_closed_mode p.mode) × ArgFits s p (right_until stage p) arg × RuleArgsFit s params stages args

-- holds if each loop was begun by a REPEAT
abbrev pub AreBegun : List Flow → List Loop → Type 0
AreBegun code [] = Unit {0}
AreBegun code (inner ∷ outer) = ((begin : ℕ) × (iterations : ℕ) × (inner.first ≡ begin + 1) × (slice_get code begin ≡ Some (Begin iterations))) × AreBegun code outer

-- ---- the parts

-- each running task, waiting task and rule has a procedure of the program
pub record ProceduresHeld (program : List Procedure) (s : State) : Type 0 where
  pub frames : (actor : Actor) (frame : Frame) → get s.frames actor ≡ Some frame → (p : Procedure) × (slice_get program frame.procedure ≡ Some p)
  pub tasks : (number : ℕ) (task : Task) → get s.tasks number ≡ Some task → (p : Procedure) × (slice_get program task.procedure ≡ Some p)
  pub rules : (number : ℕ) (rule : Rule) → get s.rules number ≡ Some rule → (p : Procedure) × (slice_get program rule.procedure ≡ Some p)

-- every number in the state is below the next one (`IsTypedStore` says it of data)
pub record NumbersHeld (s : State) : Type 0 where
  pub tasks : (number : ℕ) (task : Task) → get s.tasks number ≡ Some task → number < s.next_task
  pub rules : (number : ℕ) (rule : Rule) → get s.rules number ≡ Some rule → number < s.next_rule

-- values and rights are of the types that the code determines
pub record TypesHeld (program : List Procedure) (typings : Typings) (s : State) : Type 0 where
  pub procedures : ProceduresHeld program s
  pub store : IsTypedStore s.store
  pub values : (actor : Actor) (frame : Frame) (p : Procedure) → get s.frames actor ≡ Some frame → slice_get program frame.procedure ≡ Some p → ValuesFit p.registers frame.position.values
  pub rights : (actor : Actor) (frame : Frame) → get s.frames actor ≡ Some frame → RightsFit s.store (typing_of typings frame) frame.rights
  pub args : (number : ℕ) (task : Task) (p : Procedure) → get s.tasks number ≡ Some task → slice_get program task.procedure ≡ Some p → ArgsFit s.store p.params task.args
  pub rules : (number : ℕ) (rule : Rule) (p : Procedure) → get s.rules number ≡ Some rule → slice_get program rule.procedure ≡ Some p → RuleArgsFit s.store p.params rule.stages rule.args

-- the counts of each datum are those of its holders, and an unset scalar has one writer
pub record CountsHeld (program : List Procedure) (typings : Typings) (s : State) : Type 0 where
  pub balanced : Balanced s.store.live (reads_of program typings s) (writes_of program typings s)
  pub writers : HaveWriters s.store.live

-- each running task is in loops that it has begun, and within its budget
pub record BudgetsHeld (program : List Procedure) (s : State) : Type 0 where
  pub begun : (actor : Actor) (frame : Frame) (p : Procedure) → get s.frames actor ≡ Some frame → slice_get program frame.procedure ≡ Some p → AreBegun (flows p.code) frame.position.loops
  pub within : (actor : Actor) (frame : Frame) (p : Procedure) (budget : ℕ) → get s.frames actor ≡ Some frame → slice_get program frame.procedure ≡ Some p → IsBudget (flows p.code) budget
      → IsWithinBudget (flows p.code) budget frame.spent frame.position.place frame.position.loops

-- all parts
pub record IsHeld (program : List Procedure) (typings : Typings) (s : State) : Type 0 where
  pub numbers : NumbersHeld s
  pub types : TypesHeld program typings s
  pub counts : CountsHeld program typings s
  pub notices : NoticesHeld s
  pub budgets : BudgetsHeld program s
