-- The data of main's first parameters while a program is opened.
use Rattle.std.specs.Prelude.{◌≡◌, ◌≤◌, ◌<◌, ◌+◌, ◌*◌, ℕ, true, pos, List, [], ◌∷◌, ◌++◌, map as each, length, replicate, None}
use Rattle.std.specs.List.{AllByRecursion, list_all}
use Rattle.std.specs.FinMap as fin
use Rattle.tw_types.specs.declared.actor.Kind.TheVariants.{Control}
use Rattle.tw_types.specs.declared.input.Input.{Input}
use Rattle.tw_types.specs.declared.param.Param.{Param}
use Rattle.tw_types.specs.Task.{RightArg}
use Rattle.tw_rights.specs.declared.arg.Arg.{Arg}
use Rattle.tw_rights.specs.Bare.{bare_arg}
use Rattle.tw_rights.specs.Rights.{Right}
use Rattle.tw_store.specs.Served.{Served}
use Rattle.tw_code.specs.accepting.MainShape.{is_main_param}
use Rattle.tw_code.specs.machine.Inputs.{are_inputs_of, input_params}
use Rattle.tw_code.specs.machine.Opening.{Opened}
use Rattle.tw_pool_state.specs.Fits.{AreAt, ArgsMatch}
use Rattle.tw_pool_state.specs.Givens.{AreAllLive}
use Rattle.tw_pool_state.specs.RunningTasks.{RunningView}
use Rattle.tw_pool_state.specs.declared.parts.Parts.{Parts}

-- the data, main's arguments, and the host's rights
pub record OpenedParts : Type 0 where
  pub store : Served
  pub args : List Arg
  pub outputs : List Right

abbrev pub AreBefore : ℕ → List ℕ → Type 0
AreBefore next ids = AllByRecursion (λ id. id < next) ids

-- these are the data of these parameters, as the machine's definition makes them
pub record IsMade (servers : ℕ) (params : List Param) (o : OpenedParts) (made : Opened) : Type 0 where
  pub store : o.store.store ≡ made.store
  pub queues : o.store.queues ≡ replicate servers []
  pub live : AreAllLive o.store
  pub args : each bare_arg o.args ≡ each RightArg made.rights
  pub outputs : each (λ right. right.id) o.outputs ≡ made.outputs
  pub rights_fit : ArgsMatch o.store.places params o.args
  pub outputs_at : AreAt o.store.places o.outputs
  pub args_before : AreBefore made.store.next made.rights
  pub outputs_before : AreBefore made.store.next made.outputs
  pub next : made.store.next ≤ 1001 * length params + 1
  pub few : length o.outputs ≤ length params

-- holds if one more parameter may get its data
abbrev pub MayAdd : OpenedParts → Type 0
MayAdd o = (servers : ℕ) × (params : List Param) × (made : Opened) × (length params < 8) × IsMade servers params o made

-- holds if a parameter got its data, as the definition makes them by f
abbrev pub Adds : Param → (Opened → Opened) → OpenedParts → OpenedParts → Type 0
Adds p f old new = (servers : ℕ) (params : List Param) (made : Opened) → IsMade servers params old made → IsMade servers (params ++ p ∷ []) new (f made)

-- parameters that main may have, with an input for each that takes one
pub record AreForAll (params : List Param) (inputs : List Input) : Type 0 where
  pub few : length params ≤ 8
  pub shape : list_all is_main_param params ≡ true
  pub count : length inputs ≡ length (input_params params)
  pub fit : are_inputs_of (input_params params) inputs ≡ true

-- main waits with these data, and these tasks run
pub record MainWaits (running : RunningView) (o : OpenedParts) (p : Parts) : Type 0 where
  pub store : p.store ≡ o.store
  pub rules : p.rules.rules ≡ fin.empty
  pub next_rule : p.rules.next ≡ 1
  pub tasks : p.tasks.tasks ≡ fin.insert fin.empty 1 (record { kind = Control; procedure = 0; priority = pos 0; target = None; args = o.args })
  pub next_task : p.next_task ≡ 2
  pub running_tasks : p.running_tasks ≡ running
  pub outputs : p.outputs ≡ o.outputs
