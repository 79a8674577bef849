-- The core machine's states, and what a step of a task does: tasks and data by names, with no actors, priorities, counts or freeing.
use Rattle.std.proofs.Common.{◌≡◌, ℕ, ◌+◌, Bool, true, false, if◌then◌else◌, List, [], ◌∷◌, Option, Some, None, slice_get, slice_set}
use Rattle.std.specs.Prelude.{pos, ℤ, Result, Ok, Err}
use Rattle.std.specs.FinMap as fin
use Rattle.tw_determinism.proofs.MachineNames.{Action, Cause, DataInstr, FinMap, Instr, NestedScalar, Param, Position, Procedure, Subscript, Value, Values, at_goal, at_next_place, filled, first_rights, int_at, is_closed_mode, is_map, is_scalar, is_sums, is_val, local_instr, of_type_at, option_and_then, option_map, right_at, subscript_after, sum_with, value_at, value_cmp, with_result, with_value}
use Rattle.tw_types.specs.declared.value.Value.TheVariants as value
use Rattle.tw_code.specs.declared.instr.DataInstr.TheVariants as on_data
use Rattle.tw_code.specs.declared.instr.Instr.TheVariants as instr
use Rattle.tw_determinism.proofs.Names.{Name, name_cmp}

-- ---- what there is

-- a right: to write or to read, and the name of its datum
pub record Right : Type 0 where
  pub write : Bool
  pub of : Name

-- the 16 right registers
abbrev pub Registers : Type 0
Registers = List (Option Right)

-- the members of a container, by names
abbrev pub MemberNames : Type 0
MemberNames = FinMap value_cmp Name

-- the content of a datum; values are put into a map, and added to one of sums
pub data Cell : Type 0 where
  Unset : Cell
  Set : Value → Cell
  Contains : MemberNames → Cell
  Maps : Values → Cell
  Sums : Values → Cell

-- a task that waits, as a rule or in the queue, until these data are closed
pub record Waiting : Type 0 where
  pub procedure : ℕ
  pub values : List Value
  pub rights : List Right
  pub awaits : List Name

-- a task that runs
pub record Running : Type 0 where
  pub procedure : ℕ
  pub position : Position
  pub rights : Registers
  pub spent : ℕ

pub data Thread : Type 0 where
  Waits : Waiting → Thread
  Runs : Running → Thread
  Ended : Thread

abbrev pub Cells : Type 0
Cells = FinMap name_cmp Cell

abbrev pub Threads : Type 0
Threads = FinMap name_cmp Thread

-- whether the write right of the datum has been copied
abbrev pub Shared : Type 0
Shared = Name → Bool

-- data are never freed, and tasks that have ended stay
pub record Net : Type 0 where
  pub cells : Cells
  pub threads : Threads
  pub shared : Shared

-- ---- closed data

-- a register of a running task, or an argument of a waiting one, has the write right
abbrev pub HasWrite : Name → Option Right → Type 0
HasWrite d None = ⊥
HasWrite d (Some right) = (right.write ≡ true) × (right.of ≡ d)

abbrev pub HoldsWrite : Name → Thread → Type 0
HoldsWrite d (Waits w) = (k : ℕ) × HasWrite d (slice_get w.rights k)
HoldsWrite d (Runs f) = (k : ℕ) × HasWrite d (right_at f.rights k)
HoldsWrite d Ended = ⊥

-- nobody has a write right on the datum
abbrev pub IsWritable : Threads → Name → Type 0
IsWritable threads d = (t : Name) (th : Thread) → fin.get threads t ≡ Some th → HoldsWrite d th → ⊥

-- a scalar is set, or nobody may write the container or map
abbrev pub IsClosedPool : Threads → Name → Cell → Type 0
IsClosedPool threads d Unset = ⊥
IsClosedPool threads d (Set x) = Unit {0}
IsClosedPool threads d (Contains members) = IsWritable threads d
IsClosedPool threads d (Maps values) = IsWritable threads d
IsClosedPool threads d (Sums values) = IsWritable threads d

pub record IsClosed (m : Net) (d : Name) : Type 0 where
  pub cell : Cell
  pub there : fin.get m.cells d ≡ Some cell
  pub shut : IsClosedPool m.threads d cell

-- ---- what a step does to data and tasks

pub data Writing : Type 0 where
  SetTo : Value → Writing
  Put : Subscript → Name → Writing
  PutValue : Subscript → Value → Writing
  Add : Subscript → ℤ → Writing

-- a scalar is set once, and a subscript taken once
abbrev pub put_if_free : MemberNames → Subscript → Name → Option Name → Option Cell
put_if_free members at member (Some other) = None
put_if_free members at member None = Some (Contains (fin.insert members at member))

abbrev pub value_if_free : Values → Subscript → Value → Option Value → Option Cell
value_if_free values at x (Some other) = None
value_if_free values at x None = Some (Maps (fin.insert values at x))

abbrev pub written : Writing → Cell → Option Cell
written (SetTo x) Unset = Some (Set x)
written (SetTo x) (Set y) = None
written (SetTo x) (Contains members) = None
written (SetTo x) (Maps values) = None
written (SetTo x) (Sums values) = None
written (Put at member) Unset = None
written (Put at member) (Set y) = None
written (Put at member) (Contains members) = put_if_free members at member (fin.get members at)
written (Put at member) (Maps values) = None
written (Put at member) (Sums values) = None
written (PutValue at x) Unset = None
written (PutValue at x) (Set y) = None
written (PutValue at x) (Contains members) = None
written (PutValue at x) (Maps values) = value_if_free values at x (fin.get values at)
written (PutValue at x) (Sums values) = None
written (Add at n) Unset = None
written (Add at n) (Set y) = None
written (Add at n) (Contains members) = None
written (Add at n) (Maps values) = None
written (Add at n) (Sums values) = Some (Sums (fin.insert values at (sum_with (fin.get values at) n)))

-- apart from its own thread a step changes nothing, or makes a datum or a task of the next name, or writes, or copies a write right
pub data Act : Type 0 where
  Nothing : Act
  Bears : Cell → Act
  Makes : Waiting → Act
  Writes : Name → Writing → Act
  Shares : Name → Act

pub record Effect : Type 0 where
  pub thread : Thread
  pub act : Act

-- ---- RULE and PUT

pub record Handed : Type 0 where
  pub values : List Value
  pub rights : List Right
  pub awaits : List Name
  pub left : Registers

abbrev pub with_given : Value → Handed → Handed
with_given x h = record h { values = x ∷ h.values }

abbrev pub with_moved : Bool → Right → Handed → Handed
with_moved awaited right h = record h { rights = right ∷ h.rights; awaits = if awaited then right.of ∷ h.awaits else h.awaits }

abbrev pub handed : List Value → Registers → List Param → List ℕ → Option Handed
handed values left [] registers = Some (record { values = []; rights = []; awaits = []; left = left })
handed values left (p ∷ params) [] = Some (record { values = []; rights = []; awaits = []; left = left })
handed values left (p ∷ params) (register ∷ registers) =
    if is_val p.mode
    then option_and_then (λ x. option_map (with_given x) (handed values left params registers)) (slice_get values register)
    else option_and_then (λ right. option_map (with_moved (is_closed_mode p.mode) right) (handed values (slice_set left register None) params registers)) (right_at left register)

-- ---- instructions on data

abbrev pub ok : {A : Type 0} → Result A Cause → Option A
ok (Ok x) = Some x
ok (Err cause) = None

-- the position and the registers after it, and what it does to data
pub record Done : Type 0 where
  pub position : Position
  pub rights : Registers
  pub act : Act

abbrev pub map_cell : NestedScalar → Values → Cell
map_cell ty values = if is_sums ty then Sums values else Maps values

abbrev pub empty_cell : NestedScalar → Cell
empty_cell ty = if is_scalar ty then Unset else if is_map ty then map_cell ty fin.empty else Contains fin.empty

abbrev pub value_in : Cell → Option Value
value_in Unset = None
value_in (Set x) = Some x
value_in (Contains members) = None
value_in (Maps values) = None
value_in (Sums values) = None

abbrev pub members_in : Cell → MemberNames
members_in Unset = fin.empty
members_in (Set x) = fin.empty
members_in (Contains members) = members
members_in (Maps values) = fin.empty
members_in (Sums values) = fin.empty

abbrev pub entries_in : Cell → Values
entries_in Unset = fin.empty
entries_in (Set x) = fin.empty
entries_in (Contains members) = fin.empty
entries_in (Maps values) = values
entries_in (Sums values) = values

abbrev pub count_in : Cell → ℕ
count_in Unset = 0
count_in (Set x) = 0
count_in (Contains members) = fin.len members
count_in (Maps values) = fin.len values
count_in (Sums values) = fin.len values

abbrev pub subscripts_in : Cell → List Subscript
subscripts_in Unset = []
subscripts_in (Set x) = []
subscripts_in (Contains members) = fin.keys members
subscripts_in (Maps values) = fin.keys values
subscripts_in (Sums values) = fin.keys values

abbrev pub done : Running → Position → Registers → Act → Done
done f position rights act = record { position = position; rights = rights; act = act }

-- puts the right on the member into the register, or skips
abbrev pub looked : Running → ℕ → ℕ → Option Name → Done
looked f register skip None = done f (at_goal f.position skip) f.rights Nothing
looked f register skip (Some member) = done f (at_next_place f.position) (slice_set f.rights register (Some (record { write = false; of = member }))) Nothing

-- inserts the member if there is none, or skips
abbrev pub placed : Running → ℕ → ℕ → Name → Subscript → Name → Option Name → Done
placed f register skip d at member None = done f (at_next_place f.position) (slice_set f.rights register None) (Writes d (Put at member))
placed f register skip d at member (Some other) = done f (at_goal f.position skip) f.rights Nothing

-- the member at a subscript, if the task may look
abbrev pub member_seen : Option Cell → Subscript → Option Name
member_seen cell at = option_and_then (λ c. fin.get (members_in c) at) cell

-- puts the value if there is none, or skips
abbrev pub value_placed : Running → ℕ → Name → Subscript → Value → Option Value → Done
value_placed f skip d at x None = done f (at_next_place f.position) f.rights (Writes d (PutValue at x))
value_placed f skip d at x (Some other) = done f (at_goal f.position skip) f.rights Nothing

abbrev pub entry_seen : Option Cell → Subscript → Option Value
entry_seen cell at = option_and_then (λ c. fin.get (entries_in c) at) cell

-- the right in the register, if it is one to write
abbrev pub to_write : Option Right → Option Name
to_write None = None
to_write (Some right) = if right.write then Some right.of else None

-- an instruction on data in a task whose next name this is; it may read this cell
abbrev pub on_cells : Name → Option Cell → Running → DataInstr → Option Done
on_cells next cell f (on_data.New write read ty) =
    Some (done f (at_next_place f.position) (slice_set (slice_set f.rights write (Some (record { write = true; of = next }))) read (Some (record { write = false; of = next }))) (Bears (empty_cell ty)))
on_cells next cell f (on_data.Store datum from) =
    option_and_then (λ x. option_map (λ d. done f (at_next_place f.position) (slice_set f.rights datum None) (Writes d (SetTo x))) (to_write (right_at f.rights datum))) (ok (value_at f.position from))
on_cells next cell f (on_data.Get to datum) = option_map (λ x. done f (at_next_place (with_value f.position to x)) f.rights Nothing) (option_and_then value_in cell)
on_cells next cell f (on_data.Insert by container subscript member skip) =
    option_and_then (λ at. option_and_then (λ d. option_map (λ right. placed f member skip d at right.of (member_seen cell at)) (right_at f.rights member)) (to_write (right_at f.rights container))) (ok (of_type_at f.position subscript by))
on_cells next cell f (on_data.Look by member container subscript skip) =
    option_and_then (λ at. option_map (λ c. looked f member skip (fin.get (members_in c) at)) cell) (ok (of_type_at f.position subscript by))
on_cells next cell f (on_data.Size to container) =
    option_map (λ c. done f (at_next_place (with_value f.position to (value.Int (pos (count_in c))))) f.rights Nothing) cell
on_cells next cell f (on_data.SubscriptAt by to container index skip) =
    option_and_then (λ count. option_map (λ c. done f (with_result f.position to skip (subscript_after count (subscripts_in c))) f.rights Nothing) cell) (ok (int_at f.position index))
on_cells next cell f (on_data.InsertValue map subscript from skip) =
    option_and_then (λ at. option_and_then (λ x. option_map (λ d. value_placed f skip d at x (entry_seen cell at)) (to_write (right_at f.rights map))) (ok (value_at f.position from))) (ok (value_at f.position subscript))
on_cells next cell f (on_data.AddValue map subscript from) =
    option_and_then (λ at. option_and_then (λ n. option_map (λ d. done f (at_next_place f.position) f.rights (Writes d (Add at n))) (to_write (right_at f.rights map))) (ok (int_at f.position from))) (ok (value_at f.position subscript))
on_cells next cell f (on_data.GetValue to map subscript skip) =
    option_and_then (λ at. option_map (λ c. done f (with_result f.position to skip (fin.get (entries_in c) at)) f.rights Nothing) cell) (ok (value_at f.position subscript))
on_cells next cell f (on_data.CopyRead to from) = option_map (λ right. done f (at_next_place f.position) (slice_set f.rights to (Some right)) Nothing) (right_at f.rights from)
on_cells next cell f (on_data.CopyWrite to from) = option_map (λ d. done f (at_next_place f.position) (slice_set f.rights to (Some (record { write = true; of = d }))) (Shares d)) (to_write (right_at f.rights from))
on_cells next cell f (on_data.DropRead right) = Some (done f (at_next_place f.position) (slice_set f.rights right None) Nothing)
on_cells next cell f (on_data.DropWrite right) = Some (done f (at_next_place f.position) (slice_set f.rights right None) Nothing)

-- the register of the datum that it reads
abbrev pub reads_at : DataInstr → Option ℕ
reads_at (on_data.Get to datum) = Some datum
reads_at (on_data.Look by member container subscript skip) = Some container
reads_at (on_data.Size to container) = Some container
reads_at (on_data.SubscriptAt by to container index skip) = Some container
reads_at (on_data.GetValue to map subscript skip) = Some map
reads_at i = None

-- ---- one step of a thread

abbrev pub made : Action → Handed → Waiting
made action h = record { procedure = action.procedure; values = h.values; rights = h.rights; awaits = h.awaits }

abbrev pub by_instr : List Procedure → Name → Option Cell → Running → Instr → Option Effect
by_instr program next cell f (instr.Local i) = option_map (λ at. record { thread = Runs (record f { position = at; spent = f.spent + 1 }); act = Nothing }) (ok (local_instr i f.position))
by_instr program next cell f (instr.Data i) = option_map (λ d. record { thread = Runs (record f { position = d.position; rights = d.rights; spent = f.spent + 1 }); act = d.act }) (on_cells next cell f i)
by_instr program next cell f (instr.Rule action) =
    option_and_then (λ p. option_map (λ h. record { thread = Runs (record f { position = at_next_place f.position; rights = h.left; spent = f.spent + 1 }); act = Makes (made action h) }) (handed f.position.values f.rights p.params action.args)) (slice_get program action.procedure)
by_instr program next cell f (instr.Put action) =
    option_and_then (λ p. option_map (λ h. record { thread = Runs (record f { position = at_next_place f.position; rights = h.left; spent = f.spent + 1 }); act = Makes (made action h) }) (handed f.position.values f.rights p.params action.args)) (slice_get program action.procedure)
by_instr program next cell f instr.Ret = Some (record { thread = Ended; act = Nothing })

abbrev pub instr_of : List Procedure → Running → Option Instr
instr_of program f = option_and_then (λ p. slice_get p.code f.position.place) (slice_get program f.procedure)

abbrev pub started : List Procedure → Waiting → Option Effect
started program w = option_and_then (λ p. option_map (λ values. record { thread = Runs (record { procedure = w.procedure; position = record { place = 0; values = values; loops = [] }; rights = first_rights w.rights; spent = 0 }); act = Nothing }) (ok (filled w.values p.registers))) (slice_get program w.procedure)

abbrev pub effect_of : List Procedure → Name → Option Cell → Thread → Option Effect
effect_of program next cell (Waits w) = started program w
effect_of program next cell (Runs f) = option_and_then (by_instr program next cell f) (instr_of program f)
effect_of program next cell Ended = None

-- what it looks at: nothing, a datum that must be closed, or the container or map into which it inserts
pub data Subject : Type 0 where
  Blind : Subject
  Reads : Name → Subject
  Into : Name → Subject

abbrev pub reading : Option Name → Subject
reading None = Blind
reading (Some d) = Reads d

abbrev pub writing : Option Name → Subject
writing None = Blind
writing (Some d) = Into d

abbrev pub subject_of_data : Running → DataInstr → Subject
subject_of_data f (on_data.Insert by container subscript member skip) = writing (to_write (right_at f.rights container))
subject_of_data f (on_data.InsertValue map subscript from skip) = writing (to_write (right_at f.rights map))
subject_of_data f i = reading (option_map (λ right. right.of) (option_and_then (right_at f.rights) (reads_at i)))

abbrev pub subject_of_instr : Running → Option Instr → Subject
subject_of_instr f None = Blind
subject_of_instr f (Some (instr.Local i)) = Blind
subject_of_instr f (Some (instr.Data i)) = subject_of_data f i
subject_of_instr f (Some (instr.Rule action)) = Blind
subject_of_instr f (Some (instr.Put action)) = Blind
subject_of_instr f (Some instr.Ret) = Blind

abbrev pub subject_of : List Procedure → Thread → Subject
subject_of program (Waits w) = Blind
subject_of program (Runs f) = subject_of_instr f (instr_of program f)
subject_of program Ended = Blind

-- the data that must be closed: those that a waiting task awaits
abbrev pub awaits_of : Thread → List Name
awaits_of (Waits w) = w.awaits
awaits_of (Runs f) = []
awaits_of Ended = []

abbrev pub spent_of : Thread → ℕ
spent_of (Waits w) = 0
spent_of (Runs f) = f.spent
spent_of Ended = 0

-- the name of what it makes next
abbrev pub next_name : Name → Thread → Name
next_name t th = spent_of th ∷ t

-- what it sees: nothing in a container whose write right has been copied
abbrev pub cell_at : Net → Subject → Option Cell
cell_at m Blind = None
cell_at m (Reads d) = fin.get m.cells d
cell_at m (Into d) = if m.shared d then None else fin.get m.cells d
