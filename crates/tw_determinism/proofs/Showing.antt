-- A state of the machine, and what it shows of the core machine: its data, tasks and rules by names.
use Rattle.std.proofs.Common.{◌≡◌, ◌⊎◌, ℕ, zero, suc, ◌+◌, ◌<◌, ◌≤◌, Bool, false, if◌then◌else◌, List, [], ◌∷◌, Option, Some, None, refl, sym, ap, slice_set}
use Rattle.tw_determinism.proofs.MachineNames.{Actor, Arg, Content, Copied, Datum, Frame, NestedScalar, Param, Procedure, RightArg, RightType, Rights, Rule, State, Store, Task, Typing, Typings, ValueArg, get, is_closed_mode, is_write, mapped, option_map, params_of, right_at, total, typing_of, values_in}
use Rattle.tw_types.specs.Store as store
use Rattle.tw_determinism.proofs.Names.{Name}
use Rattle.tw_determinism.proofs.CoreEffects.{Right, Registers, Cell, Unset, Set, Contains, Cells, Threads, Shared, Thread, Waits, Runs, Ended, Waiting, Running, Net, map_cell}
use Rattle.tw_determinism.proofs.CoreMachine.{IsMade}

-- ---- rights by names

abbrev pub named_one : (ℕ → Name) → Option RightType → Option ℕ → Option Right
named_one f None id = None
named_one f (Some right) None = None
named_one f (Some right) (Some id) = Some (record { write = is_write right.mode; of = f id })

abbrev pub named : (ℕ → Name) → Typing → Rights → Registers
named f [] ids = []
named f (right ∷ rights) [] = []
named f (right ∷ rights) (id ∷ ids) = named_one f right id ∷ named f rights ids

abbrev pub rights_in : (ℕ → Name) → List Param → List Arg → List Right
rights_in f [] args = []
rights_in f (p ∷ params) [] = []
rights_in f (p ∷ params) (ValueArg x ∷ args) = rights_in f params args
rights_in f (p ∷ params) (RightArg id ∷ args) = record { write = is_write p.mode; of = f id } ∷ rights_in f params args

abbrev pub awaits_in : (ℕ → Name) → List Param → List Arg → List Name
awaits_in f [] args = []
awaits_in f (p ∷ params) [] = []
awaits_in f (p ∷ params) (ValueArg x ∷ args) = awaits_in f params args
awaits_in f (p ∷ params) (RightArg id ∷ args) = if is_closed_mode p.mode then f id ∷ awaits_in f params args else awaits_in f params args

-- ---- data

abbrev pub cell_of : (ℕ → Name) → NestedScalar → Content → Cell
cell_of f ty store.Unset = Unset
cell_of f ty (store.Set x) = Set x
cell_of f ty (store.Contains members) = Contains (mapped f members)
cell_of f ty (store.Maps values) = map_cell ty values

-- each live datum is there, freed ones too, and no two ids have one name
pub record ShowsCells (f : ℕ → Name) (s : Store) (cells : Cells) : Type 0 where
  pub live : (id : ℕ) (x : Datum) → get s.live id ≡ Some x → get cells (f id) ≡ Some (cell_of f x.ty x.content)
  pub used : (id : ℕ) → id < s.next → (f id ≡ []) ⊎ ((c : Cell) × (get cells (f id) ≡ Some c))
  pub apart : (i j : ℕ) → i < s.next → j < s.next → f i ≡ f j → i ≡ j

-- what has been copied, by names. Of what isn't made yet it is the same for all data, and what hasn't been copied has one writer at most.
pub record ShowsShared (f : ℕ → Name) (copied : Copied) (start : Bool) (s : Store) (cells : Cells) (shared : Shared) : Type 0 where
  pub below : (id : ℕ) → id < s.next → shared (f id) ≡ copied id
  pub above : (id : ℕ) → s.next ≤ id → copied id ≡ start
  pub unmade : (d : Name) → get cells d ≡ None → shared d ≡ start
  pub few : (id : ℕ) (x : Datum) → get s.live id ≡ Some x → copied id ≡ false → x.writes ≤ 1

-- ---- tasks

abbrev pub running : (ℕ → Name) → Typings → Frame → Running
running f typings frame = record { procedure = frame.procedure; position = frame.position; rights = named f (typing_of typings frame) frame.rights; spent = frame.spent }

abbrev pub waiting : (ℕ → Name) → List Procedure → ℕ → List Arg → Waiting
waiting f program procedure args =
    record { procedure = procedure; values = values_in args; rights = rights_in f (params_of program procedure) args; awaits = awaits_in f (params_of program procedure) args }

-- where a task is: an actor runs it, it waits in the queue, or it is a rule yet
pub data Holder : Type 0 where
  OfFrame : Actor → Holder
  OfTask : ℕ → Holder
  OfRule : ℕ → Holder

abbrev pub thread_in : List Procedure → Typings → (ℕ → Name) → State → Holder → Option Thread
thread_in program typings f s (OfFrame actor) = option_map (λ frame. Runs (running f typings frame)) (get s.frames actor)
thread_in program typings f s (OfTask number) = option_map (λ (task : Task). Waits (waiting f program task.procedure task.args)) (get s.tasks number)
thread_in program typings f s (OfRule number) = option_map (λ (rule : Rule). Waits (waiting f program rule.procedure rule.args)) (get s.rules number)

-- each of them is there by its name, and nothing else but what has ended
pub record ShowsThreads (at : Holder → Option Thread) (name : Holder → Name) (threads : Threads) : Type 0 where
  pub there : (h : Holder) (th : Thread) → at h ≡ Some th → get threads (name h) ≡ Some th
  pub all : (t : Name) (th : Thread) → get threads t ≡ Some th → (th ≡ Ended) ⊎ ((h : Holder) × (name h ≡ t) × (at h ≡ Some th))
  pub apart : (g h : Holder) (th ti : Thread) → at g ≡ Some th → at h ≡ Some ti → name g ≡ name h → g ≡ h

abbrev pub one : {A : Type 0} → A → ℕ
one x = 1

abbrev pub alive : Thread → ℕ
alive (Waits w) = 1
alive (Runs f) = 1
alive Ended = 0

-- the names of data, and those of tasks; which data's write right has been copied, and what that was at first
pub record Naming : Type 0 where
  pub datum : ℕ → Name
  pub holder : Holder → Name
  pub copied : Copied
  pub start : Bool

pub record Shows (program : List Procedure) (typings : Typings) (n : Naming) (s : State) (m : Net) : Type 0 where
  pub cells : ShowsCells n.datum s.store m.cells
  pub threads : ShowsThreads (thread_in program typings n.datum s) n.holder m.threads
  pub shared : ShowsShared n.datum n.copied n.start s.store m.cells m.shared
  pub count : total one s.frames + (total one s.tasks + total one s.rules) ≡ total alive m.threads
  pub made : IsMade m

-- ---- lemmas on registers by names

one_none : (f : ℕ → Name) (o : Option RightType) → named_one f o None ≡ None
one_none f None = refl
one_none f (Some right) = refl

pub named_at : (f : ℕ → Name) (typing : Typing) (ids : Rights) (k : ℕ) → right_at (named f typing ids) k ≡ named_one f (right_at typing k) (right_at ids k)
named_at f [] ids k = refl
named_at f (t ∷ typing) [] k = sym (one_none f (right_at (t ∷ typing) k))
named_at f (t ∷ typing) (id ∷ ids) zero = refl
named_at f (t ∷ typing) (id ∷ ids) (suc k) = named_at f typing ids k

pub named_set : (f : ℕ → Name) (typing : Typing) (ids : Rights) (k : ℕ) (t : Option RightType) (i : Option ℕ) → slice_set (named f typing ids) k (named_one f t i) ≡ named f (slice_set typing k t) (slice_set ids k i)
named_set f [] ids k t i = refl
named_set f (u ∷ typing) [] zero t i = refl
named_set f (u ∷ typing) [] (suc k) t i = refl
named_set f (u ∷ typing) (id ∷ ids) zero t i = refl
named_set f (u ∷ typing) (id ∷ ids) (suc k) t i = ap (λ xs. named_one f u id ∷ xs) (named_set f typing ids k t i)
