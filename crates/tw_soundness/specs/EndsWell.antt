-- The state after a run of an accepted program has ended by itself.
use Rattle.std.specs.Prelude.{◌≡◌, ℕ, ◌<◌, true, false, List, Some, slice_get}
use Rattle.std.specs.FinMap.{get}
use Rattle.tw_types.specs.declared.ending.Ending.TheVariants.{Quiet, Stuck}
use Rattle.tw_types.specs.declared.pending.Link.{Link}
use Rattle.tw_types.specs.Circle.{IsCircle}
use Rattle.tw_types.specs.Counts.{count_of, subscripts_in}
use Rattle.tw_types.specs.Distinct.{is_among}
use Rattle.tw_types.specs.Store.{Datum, is_closed}
use Rattle.tw_types.specs.Rule.{Rule}
use Rattle.tw_code.specs.declared.procedure.Procedure.{Procedure}
use Rattle.tw_code.specs.machine.Arguments.{params_of}
use Rattle.tw_code.specs.machine.Ending.{ending}
use Rattle.tw_code.specs.machine.Pending.{waited_for, written_by, pending_rules, circle}
use Rattle.tw_code.specs.machine.State.{State}

-- an output, or a member of a container that is kept
pub data IsKept (s : State) : ℕ → Type 0 where
  output : {id : ℕ} → 0 < count_of id s.outputs → IsKept s id
  member : {id : ℕ} (container : ℕ) (x : Datum) → IsKept s container → get s.store.live container ≡ Some x → 0 < subscripts_in id x → IsKept s id

-- all live data are outputs or members of these, and are closed; and all of these are live
pub record LeavesOutputs (s : State) : Type 0 where
  pub kept : (id : ℕ) (x : Datum) → get s.store.live id ≡ Some x → IsKept s id
  pub closed : (id : ℕ) (x : Datum) → get s.store.live id ≡ Some x → is_closed x ≡ true
  pub live : (id : ℕ) → IsKept s id → (x : Datum) × (get s.store.live id ≡ Some x)

-- the first datum for which the rule waits is live and open, and a pending rule has a write right on it
pub record IsBlockedRule (program : List Procedure) (s : State) (rule : Rule) : Type 0 where
  pub id : ℕ
  pub waits : slice_get (waited_for rule.stages rule.args) 0 ≡ Some id
  pub x : Datum
  pub live : get s.store.live id ≡ Some x
  pub unfinished : is_closed x ≡ false
  pub number : ℕ
  pub writer : Rule
  pub pending : get s.rules number ≡ Some writer
  pub writes : is_among id (written_by (params_of program writer.procedure) writer.args) ≡ true

pub record EndsWell (program : List Procedure) (s : State) : Type 0 where
  pub quiet : ending s ≡ Some Quiet → LeavesOutputs s
  pub stuck : (n : ℕ) → ending s ≡ Some (Stuck n) → (number : ℕ) (rule : Rule) → get s.rules number ≡ Some rule → IsBlockedRule program s rule
  pub circle_there : (n : ℕ) → ending s ≡ Some (Stuck n) → (links : List Link) × (circle program s ≡ Some links) × IsCircle (pending_rules program s) links
  pub only_there : (links : List Link) → circle program s ≡ Some links → (n : ℕ) × (ending s ≡ Some (Stuck n))
