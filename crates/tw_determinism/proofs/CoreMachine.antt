-- The core machine. Any task may make the next step if what it needs is closed. An insertion at a taken subscript is no step if the
-- container's write right has been copied; else it skips, since nobody else may write. A run of the machine shows a path of the core
-- machine.
use Rattle.std.proofs.Common.{◌≡◌, ℕ, zero, suc, ◌<◌, false, ◌||◌, List, [], ◌∷◌, Option, Some, None, slice_get}
use Rattle.std.specs.FinMap as fin
use Rattle.tw_determinism.proofs.MachineNames.{Procedure, eq_by_cmp, option_and_then, option_map}
use Rattle.tw_determinism.proofs.Names.{Name, name_cmp}
use Rattle.tw_determinism.proofs.CoreEffects.{Act, Bears, Cell, Cells, Effect, Ended, HoldsWrite, Into, IsClosed, Makes, Net, Nothing, Reads, Runs, Shared, Shares, Thread, Threads, Waiting, Waits, Writes, Writing, awaits_of, cell_at, effect_of, next_name, subject_of, written}

-- ---- steps of the machine

-- what an act does to data: it adds a datum of the next name, or changes one
pub data Edit : Type 0 where
  Leaves : Edit
  Adds : Cell → Edit
  Changes : Name → Writing → Edit

abbrev pub edit_of : Act → Edit
edit_of Nothing = Leaves
edit_of (Bears cell) = Adds cell
edit_of (Makes w) = Leaves
edit_of (Writes d w) = Changes d w
edit_of (Shares d) = Leaves

abbrev pub child_of : Act → Option Waiting
child_of Nothing = None
child_of (Bears cell) = None
child_of (Makes w) = Some w
child_of (Writes d w) = None
child_of (Shares d) = None

abbrev pub share_of : Act → Option Name
share_of Nothing = None
share_of (Bears cell) = None
share_of (Makes w) = None
share_of (Writes d w) = None
share_of (Shares d) = Some d

abbrev pub with_share : Shared → Option Name → Shared
with_share shared None = shared
with_share shared (Some d) = λ x. eq_by_cmp name_cmp x d || shared x

abbrev pub edited : Cells → Name → Edit → Option Cells
edited cells next Leaves = Some cells
edited cells next (Adds cell) = Some (fin.insert cells next cell)
edited cells next (Changes d w) = option_map (fin.insert cells d) (option_and_then (written w) (fin.get cells d))

abbrev pub cells_after : Cells → Name → Act → Option Cells
cells_after cells next act = edited cells next (edit_of act)

abbrev pub with_child : Threads → Name → Option Waiting → Threads
with_child threads next None = threads
with_child threads next (Some w) = fin.insert threads next (Waits w)

abbrev pub threads_after : Threads → Name → Name → Effect → Threads
threads_after threads t next e = with_child (fin.insert threads t e.thread) next (child_of e.act)

-- the datum that it writes is there
abbrev pub IsThere : Cells → Edit → Type 0
IsThere cells Leaves = Unit {0}
IsThere cells (Adds cell) = Unit {0}
IsThere cells (Changes d w) = (cell : Cell) × (fin.get cells d ≡ Some cell)

-- the container is there, and no other task may write it
pub record IsAlone (m : Net) (t d : Name) : Type 0 where
  pub cell : Cell
  pub there : fin.get m.cells d ≡ Some cell
  pub nobody : (u : Name) (th : Thread) → (u ≡ t → ⊥) → fin.get m.threads u ≡ Some th → HoldsWrite d th → ⊥

-- the task can make a step, unless it is an insertion at a taken subscript of a container whose write right has been copied
pub record Wills (program : List Procedure) (m : Net) (t : Name) : Type 0 where
  pub thread : Thread
  pub there : fin.get m.threads t ≡ Some thread
  pub awaited : (k : ℕ) (d : Name) → slice_get (awaits_of thread) k ≡ Some d → IsClosed m d
  pub read : (d : Name) → subject_of program thread ≡ Reads d → IsClosed m d
  pub alone : (d : Name) → subject_of program thread ≡ Into d → m.shared d ≡ false → IsAlone m t d
  pub effect : Effect
  pub is : effect_of program (next_name t thread) (cell_at m (subject_of program thread)) thread ≡ Some effect
  pub target : IsThere m.cells (edit_of effect.act)

-- it makes the step
pub record Steps (program : List Procedure) (m : Net) (t : Name) (n : Net) : Type 0 where
  pub wills : Wills program m t
  pub cells : cells_after m.cells (next_name t wills.thread) wills.effect.act ≡ Some n.cells
  pub threads : n.threads ≡ threads_after m.threads t (next_name t wills.thread) wills.effect
  pub shared : n.shared ≡ with_share m.shared (share_of wills.effect.act)

-- so many steps, one after the other
abbrev pub Path : List Procedure → ℕ → Net → Net → Type 0
Path program zero m n = m ≡ n
Path program (suc k) m n = (t : Name) × (next : Net) × Steps program m t next × Path program k next n

-- no task can make a step
abbrev pub IsOver : List Procedure → Net → Type 0
IsOver program m = (t : Name) → Wills program m t → ⊥

-- ---- names are new

-- the thread has executed more than so many instructions
abbrev pub IsPast : ℕ → Thread → Type 0
IsPast k (Waits w) = ⊥
IsPast k (Runs f) = k < f.spent
IsPast k Ended = Unit {0}

-- the task of this name has executed more than so many instructions; there is none with the empty name
abbrev pub WasMade : Threads → ℕ → Name → Type 0
WasMade threads k [] = Unit {0}
WasMade threads k (j ∷ t) = (th : Thread) × (fin.get threads (j ∷ t) ≡ Some th) × IsPast k th

pub record IsMade (m : Net) : Type 0 where
  pub root : fin.get m.threads [] ≡ None
  pub cells : (k : ℕ) (t : Name) (cell : Cell) → fin.get m.cells (k ∷ t) ≡ Some cell → WasMade m.threads k t
  pub threads : (k : ℕ) (t : Name) (th : Thread) → fin.get m.threads (k ∷ t) ≡ Some th → WasMade m.threads k t
