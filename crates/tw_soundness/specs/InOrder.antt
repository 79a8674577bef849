-- Further properties of each state that an accepted program reaches: which rights are held, of which types, which parameters wait,
-- and which numbers are in use.
use Rattle.std.specs.Prelude.{◌≡◌, ◌≢◌, ◌≤◌, ◌<◌, ℕ, Bool, true, false, if◌then◌else◌, List, map, filter, Option, Some, None, slice_get}
use Rattle.std.specs.FinMap.{get}
use Rattle.std.specs.FinSet as set
use Rattle.tw_types.specs.declared.actor.Actor.{Actor}
use Rattle.tw_types.specs.declared.data_type.Scalar.{Scalar}
use Rattle.tw_types.specs.declared.event.Event.{Event}
use Rattle.tw_types.specs.declared.input.Input.{Input}
use Rattle.tw_types.specs.declared.notice.Notice.{Notice}
use Rattle.tw_types.specs.declared.param.Mode.TheVariants.{Ref}
use Rattle.tw_types.specs.declared.param.Param.{Param}
use Rattle.tw_types.specs.declared.stage.Stage.{Stage}
use Rattle.tw_types.specs.declared.stage.Stage.TheVariants.{Free, Unasked, Waiting, Ready}
use Rattle.tw_types.specs.declared.value.Value.{Value}
use Rattle.tw_types.specs.Counts.{Balanced, HaveWriters}
use Rattle.tw_types.specs.Layout.{ActorCounts}
use Rattle.tw_types.specs.Mode.{is_val, is_closed_mode, is_write}
use Rattle.tw_types.specs.Outcome.{Went}
use Rattle.tw_types.specs.Rule.{Rule}
use Rattle.tw_types.specs.Store.{Datum, Store, is_closed}
use Rattle.tw_types.specs.Task.{Arg, ValueArg, RightArg, Task}
use Rattle.tw_types.specs.TypedStore.{IsTypedStore}
use Rattle.tw_types.specs.Value.{scalar_of}
use Rattle.tw_code.specs.declared.procedure.Procedure.{Procedure}
use Rattle.tw_code.specs.machine.Holders.{Typings, typing_of, reads_of, writes_of}
use Rattle.tw_code.specs.machine.Inputs.{AreInputsOf}
use Rattle.tw_code.specs.machine.Machine.{run}
use Rattle.tw_code.specs.machine.Once.{TakesOnce}
use Rattle.tw_code.specs.machine.Opening.{main_params, reached}
use Rattle.tw_code.specs.machine.Rights.{RightType, right_at, right_of}
use Rattle.tw_code.specs.machine.State.{Frame, State}
use Rattle.tw_code.specs.machine.Waiting.{times_subscribed, times_named, times_waiting, arg_at}

-- ---- types

-- the datum is live, of the right's type, and closed if the right is `closed`
pub record IsHeldAs (s : Store) (right : RightType) (id : ℕ) : Type 0 where
  pub x : Datum
  pub live : get s.live id ≡ Some x
  pub ty : x.ty ≡ right.ty
  pub closed : is_closed_mode right.mode ≡ true → is_closed x ≡ true

-- holds if such a datum is held for a right, and nothing without one
abbrev pub HeldAsDue : Store → Option RightType → Option ℕ → Type 0
HeldAsDue s None None = Unit {0}
HeldAsDue s None (Some id) = ⊥
HeldAsDue s (Some right) None = ⊥
HeldAsDue s (Some right) (Some id) = IsHeldAs s right id

-- holds if a value register has a value of its type
abbrev pub ValueAsDue : Option Scalar → Option Value → Type 0
ValueAsDue None None = Unit {0}
ValueAsDue None (Some x) = ⊥
ValueAsDue (Some ty) None = ⊥
ValueAsDue (Some ty) (Some x) = scalar_of x ≡ ty

-- holds if an argument is a value of the parameter's type, or such a datum
abbrev pub IsArgOf : Store → Param → Option RightType → Arg → Type 0
IsArgOf s p None (ValueArg x) = scalar_of x ≡ p.ty.scalar
IsArgOf s p None (RightArg id) = ⊥
IsArgOf s p (Some right) (ValueArg x) = ⊥
IsArgOf s p (Some right) (RightArg id) = IsHeldAs s right id

-- holds if there is one for each parameter
abbrev pub ArgAsDue : Store → Option Param → Option Arg → Type 0
ArgAsDue s None None = Unit {0}
ArgAsDue s None (Some arg) = ⊥
ArgAsDue s (Some p) None = ⊥
ArgAsDue s (Some p) (Some arg) = IsArgOf s p (right_of p) arg

-- returns a plain read right, unless the parameter is a value
abbrev pub read_until : Param → Option RightType
read_until p = if is_val p.mode then None else Some (record { mode = Ref; ty = p.ty })

-- returns the right that a rule's parameter holds: for a `closed` one a plain read, until it is ready
abbrev pub right_until : Stage → Param → Option RightType
right_until Free p = right_of p
right_until Unasked p = read_until p
right_until Waiting p = read_until p
right_until Ready p = right_of p

-- returns whether the parameter is asked for: the `closed` ones are
abbrev pub is_asked_for : Stage → Bool
is_asked_for Free = false
is_asked_for Unasked = true
is_asked_for Waiting = true
is_asked_for Ready = true

-- holds if a rule has a stage and an argument for each parameter
abbrev pub RuleArgAsDue : Store → Option Param → Option Stage → Option Arg → Type 0
RuleArgAsDue s None None None = Unit {0}
RuleArgAsDue s None None (Some arg) = ⊥
RuleArgAsDue s None (Some stage) arg = ⊥
RuleArgAsDue s (Some p) None arg = ⊥
RuleArgAsDue s (Some p) (Some stage) None = ⊥
RuleArgAsDue s (Some p) (Some stage) (Some arg) = (is_asked_for stage ≡ is_closed_mode p.mode) × IsArgOf s p (right_until stage p) arg

-- the registers of a running task: values by its procedure, rights by the typing of its place
pub record IsTypedFrame (program : List Procedure) (typings : Typings) (s : Store) (frame : Frame) : Type 0 where
  pub procedure : Procedure
  pub here : slice_get program frame.procedure ≡ Some procedure
  pub values : (k : ℕ) → ValueAsDue (slice_get procedure.registers k) (slice_get frame.position.values k)
  pub rights : (k : ℕ) → HeldAsDue s (right_at (typing_of typings frame) k) (right_at frame.rights k)

-- the arguments of a waiting task
pub record IsTypedTask (program : List Procedure) (s : Store) (task : Task) : Type 0 where
  pub procedure : Procedure
  pub here : slice_get program task.procedure ≡ Some procedure
  pub args : (k : ℕ) → ArgAsDue s (slice_get procedure.params k) (slice_get task.args k)

-- the arguments of a rule
pub record IsTypedRule (program : List Procedure) (s : Store) (rule : Rule) : Type 0 where
  pub procedure : Procedure
  pub here : slice_get program rule.procedure ≡ Some procedure
  pub args : (k : ℕ) → RuleArgAsDue s (slice_get procedure.params k) (slice_get rule.stages k) (slice_get rule.args k)

-- returns the host's rights: a read for each `write` parameter of main, in order
abbrev pub output_rights : List Procedure → List RightType
output_rights program = map (λ p. record { mode = Ref; ty = p.ty }) (filter (λ p. is_write p.mode) (main_params program))

-- the data in the store, and everything held on them, are of their types
pub record IsTyped (program : List Procedure) (typings : Typings) (s : State) : Type 0 where
  pub store : IsTypedStore s.store
  pub frames : (actor : Actor) (frame : Frame) → get s.frames actor ≡ Some frame → IsTypedFrame program typings s.store frame
  pub tasks : (number : ℕ) (task : Task) → get s.tasks number ≡ Some task → IsTypedTask program s.store task
  pub rules : (number : ℕ) (rule : Rule) → get s.rules number ≡ Some rule → IsTypedRule program s.store rule
  pub outputs : (k : ℕ) → HeldAsDue s.store (slice_get (output_rights program) k) (slice_get s.outputs k)

-- ---- waiting parameters

pub record IsAwaited (s : State) : Type 0 where
  -- each parameter that waits is named once in all, by a subscriber or a notice, and no other is named
  pub once : (rule parameter : ℕ) → times_named s.store.live s.notices s.rules rule parameter ≡ times_waiting s.rules rule parameter
  -- a subscriber is at its parameter's datum, which isn't closed
  pub subscribers : (id : ℕ) (x : Datum) (rule parameter : ℕ) → get s.store.live id ≡ Some x → 0 ≢ times_subscribed rule parameter x
      → (is_closed x ≡ false) × (arg_at (get s.rules rule) parameter ≡ Some (RightArg id))
  -- a notice is of its parameter's datum, which is live and closed
  pub notices : (n : Notice) → set.contains s.notices n ≡ true
      → (arg_at (get s.rules n.rule) n.parameter ≡ Some (RightArg n.datum)) × ((x : Datum) × (get s.store.live n.datum ≡ Some x) × (is_closed x ≡ true))

-- ---- numbers

-- every number in use is below the next one
pub record IsNumbered (s : State) : Type 0 where
  pub ids : (id : ℕ) (x : Datum) → get s.store.live id ≡ Some x → id < s.store.next
  pub rules : (number : ℕ) (rule : Rule) → get s.rules number ≡ Some rule → number < s.next_rule
  pub tasks : (number : ℕ) (task : Task) → get s.tasks number ≡ Some task → number < s.next_task
  pub frames : (actor : Actor) (frame : Frame) → get s.frames actor ≡ Some frame → frame.task < s.next_task

-- ---- all of it

pub record IsInOrder (program : List Procedure) (typings : Typings) (s : State) : Type 0 where
  -- the counts of each datum are those of its holders, and it has at least one
  pub counts : Balanced s.store.live (reads_of program typings s) (writes_of program typings s)
  -- an unset scalar has one writer, a set one none
  pub writers : HaveWriters s.store.live
  pub types : IsTyped program typings s
  pub waits : IsAwaited s
  pub numbers : IsNumbered s

-- Between one store and a later one no id is reused: a datum that is live in the later one, with an id that was in use, was live
-- before. It keeps its type, and stays closed if it was.
pub record LivesOn (s t : Store) : Type 0 where
  pub next : s.next ≤ t.next
  pub same : (id : ℕ) (y : Datum) → id < s.next → get t.live id ≡ Some y → (x : Datum) × (get s.live id ≡ Some x) × (y.ty ≡ x.ty) × (is_closed x ≡ true → is_closed y ≡ true)

-- With any inputs of the signature, any layout and any events: each state that is reached is in order, its data live on in later
-- states, and no task is taken twice.
pub record StaysInOrder (program : List Procedure) (typings : Typings) : Type 0 where
  pub reached_is_in_order : (inputs : List Input) (layout : ActorCounts) (events : List Event) (s : State) → AreInputsOf program inputs → reached program inputs layout events ≡ Went s → IsInOrder program typings s
  pub lasts : (inputs : List Input) (layout : ActorCounts) (events more : List Event) (s t : State) → AreInputsOf program inputs → reached program inputs layout events ≡ Went s → run program layout more s ≡ Went t → LivesOn s.store t.store
  pub once : (inputs : List Input) (layout : ActorCounts) (events : List Event) → TakesOnce program inputs layout events
