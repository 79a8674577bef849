-- The state after an event that succeeded, and what was there before.
use Rattle.std.proofs.Common.{◌≡◌, ℕ, ◌+◌, ◌==◌, Bool, true, false, not, ◌&&◌, nat_lt, if◌then◌else◌, slice_get, is_none, List, Option, Some, None, refl, ap, ◌∙◌}
use Rattle.std.specs.FinMap.{get, remove}
use Rattle.std.specs.FinSet as set
use Rattle.std.specs.List.{list_all}
use Rattle.std.specs.Prelude.{Ok}
use Rattle.tw_types.specs.declared.actor.Actor.{Actor}
use Rattle.tw_types.specs.declared.actor.Actor.TheVariants.{Engine}
use Rattle.tw_types.specs.declared.cause.Cause.TheVariants.{FreedDatum, OutsideCode, RightLeft, WrongCall}
use Rattle.tw_types.specs.declared.notice.Notice.{Notice}
use Rattle.tw_types.specs.declared.stage.Stage.{Stage}
use Rattle.tw_types.specs.declared.stage.Stage.TheVariants.{Free, Unasked, Waiting, Ready}
use Rattle.tw_types.specs.Actor.{is_in, number_in_kind}
use Rattle.tw_types.specs.Layout.{ActorCounts}
use Rattle.tw_types.specs.Outcome.{Went, outcome_of}
use Rattle.tw_types.specs.Result.{must}
use Rattle.tw_types.specs.Rule.{Rule, is_releasable, is_unasked, task_from}
use Rattle.tw_types.specs.Store.{Datum, is_closed, server_of}
use Rattle.tw_types.specs.StoreCalls.{subscribed}
use Rattle.tw_types.specs.Task.{Arg, ValueArg, RightArg, Task, best}
use Rattle.tw_types.proofs.Outcomes.{IfWent, if_both, if_enabled, if_ok, if_only, if_then, if_there, went_of}
use Rattle.tw_code.specs.declared.instr.Action.{Action}
use Rattle.tw_code.specs.declared.instr.DataInstr.{DataInstr}
use Rattle.tw_code.specs.declared.instr.Instr.{Instr}
use Rattle.tw_code.specs.declared.instr.Instr.TheVariants as instr
use Rattle.tw_code.specs.declared.procedure.Procedure.{Procedure}
use Rattle.tw_code.specs.machine.Arguments.{Called, called, procedure_of, put_called}
use Rattle.tw_code.specs.machine.Data.{Context, data_instr}
use Rattle.tw_code.specs.machine.Machine.{RunningInstr, ask_event, call_by, call_event, deliver_event, end_event, id_in, is_ret, local_event, local_steps, own_rule, ready_at, release_event, running_instr_of, take_event}
use Rattle.tw_code.specs.machine.Position.{Position}
use Rattle.tw_code.specs.machine.State.{Frame, State, after_context, context_of, frame_of, frame_after_call, new_rule, with_frame, with_rule, with_stage, with_task}

-- ---- before the event

-- an actor's frame, its procedure, and the instruction at its place
pub record IsRunningAt (program : List Procedure) (actor : Actor) (s : State) (at : RunningInstr) : Type 0 where
  pub frame : get s.frames actor ≡ Some at.frame
  pub procedure : slice_get program at.frame.procedure ≡ Some at.procedure
  pub instr : slice_get at.procedure.code at.frame.position.place ≡ Some at.instr

pub is_running_at : (program : List Procedure) (actor : Actor) (s : State) (at : RunningInstr) → running_instr_of program actor s ≡ Went at → IsRunningAt program actor s at
is_running_at program actor s at = went_of (running_instr_of program actor s) (IsRunningAt program actor s) at
    (if_enabled (get s.frames actor) (λ f a. if_there (slice_get program f.procedure) WrongCall (λ p b. if_there (slice_get p.code f.position.place) OutsideCode (λ i c. record { is = record { frame = a; procedure = b; instr = c } }))))

-- a rule with an unasked parameter, and the datum that is its argument
pub record IsUnasked (s : State) (number parameter : ℕ) (rule : Rule) (id : ℕ) (x : Datum) : Type 0 where
  pub pending : get s.rules number ≡ Some rule
  pub stage : slice_get rule.stages parameter ≡ Some Unasked
  pub arg : slice_get rule.args parameter ≡ Some (RightArg id)
  pub live : get s.store.live id ≡ Some x

pub owned : (engine number : ℕ) (s : State) (rule : Rule) → own_rule engine number s ≡ Went rule → get s.rules number ≡ Some rule
owned engine number s rule = went_of (own_rule engine number s) (λ r. get s.rules number ≡ Some r) rule
    (if_only (is_none (get s.frames (Engine engine))) (λ _. if_enabled (get s.rules number) (λ r e. if_only (r.engine == engine) (λ _. record { is = e }))))

pub unasked : (stage : Stage) → is_unasked stage ≡ true → stage ≡ Unasked
unasked Free e = cc
unasked Unasked e = refl
unasked Waiting e = cc
unasked Ready e = cc

id_there : (o : Option Arg) (id : ℕ) → id_in o ≡ Went id → o ≡ Some (RightArg id)
id_there None id e = cc
id_there (Some (ValueArg x)) id e = cc
id_there (Some (RightArg d)) id e = let same : d ≡ id = cc in ap (λ k. Some (RightArg k)) same

-- ---- tasks

module _ (program : List Procedure) (actor : Actor) (s : State) {P : State → Type 0} where
  pub take_leaves : (layout : ActorCounts)
      → ((e : ℕ × Task) (frame : Frame) → best actor s.tasks ≡ Some e → frame_of program e.0 e.1 ≡ Ok frame → P (with_frame (record s { tasks = remove s.tasks e.0 }) actor frame))
      → IfWent (take_event program layout actor s) P
  take_leaves layout h = if_only (is_in layout actor && is_none (get s.frames actor)) (λ _. if_enabled (best actor s.tasks) (λ e first. if_ok (frame_of program e.0 e.1) (λ frame begun. record { is = h e frame first begun })))

  pub local_leaves : (n : ℕ)
      → ((frame : Frame) (at : Position) → not (n == 0) ≡ true → get s.frames actor ≡ Some frame → P (with_frame s actor (record frame { position = at; spent = frame.spent + n })))
      → IfWent (local_event program actor n s) P
  local_leaves n h = if_only (not (n == 0)) (λ some. if_enabled (get s.frames actor) (λ frame here. if_ok (procedure_of program frame.procedure) (λ p _. if_both (local_steps n p.code frame.position) (λ at _. record { is = h frame at some here }))))

  pub call_leaves : ((at : RunningInstr) (i : DataInstr) (c : Context) → IsRunningAt program actor s at → data_instr i (context_of s at.frame) ≡ Ok c → P (after_context s actor at.frame c))
      → ((at : RunningInstr) (action : Action) (call : Called) → IsRunningAt program actor s at → called program at.procedure.kind (context_of s at.frame) action ≡ Ok call
      → P (with_frame (with_rule s (new_rule (number_in_kind actor) call.params call.task)) actor (frame_after_call at.frame call.rights)))
      → ((at : RunningInstr) (action : Action) (call : Called) → IsRunningAt program actor s at → put_called program at.procedure.kind (context_of s at.frame) action ≡ Ok call
      → P (with_frame (with_task s call.task) actor (frame_after_call at.frame call.rights)))
      → IfWent (call_event program actor s) P
  call_leaves on_data rule put = if_both (running_instr_of program actor s) (λ at fits_place. by at (is_running_at program actor s at fits_place) at.instr)
    where
      by : (at : RunningInstr) → IsRunningAt program actor s at → (i : Instr) → IfWent (call_by program s actor at i) P
      by at here (instr.Local i) = record { is = tt }
      by at here (instr.Data i) = if_ok (data_instr i (context_of s at.frame)) (λ c e. record { is = on_data at i c here e })
      by at here (instr.Rule action) = if_ok (called program at.procedure.kind (context_of s at.frame) action) (λ call e. record { is = rule at action call here e })
      by at here (instr.Put action) = if_ok (put_called program at.procedure.kind (context_of s at.frame) action) (λ call e. record { is = put at action call here e })
      by at here instr.Ret = record { is = tt }

  pub end_leaves : P (record s { frames = remove s.frames actor }) → IfWent (end_event program actor s) P
  end_leaves h = if_both (running_instr_of program actor s) (λ at _. if_only (is_ret at.instr) (λ _. if_then (outcome_of (must (list_all is_none at.frame.rights) RightLeft)) (λ _. record { is = h })))

-- ---- rules and notices

module _ (s : State) {P : State → Type 0} where
  -- the datum is closed, or has one subscriber more
  pub ask_leaves : (engine number parameter : ℕ)
      → ((rule : Rule) (id : ℕ) (x : Datum) → IsUnasked s number parameter rule id x → P (with_stage s number rule parameter Ready))
      → ((rule : Rule) (id : ℕ) (x : Datum) → IsUnasked s number parameter rule id x → P (with_stage (record s { store = subscribed s.store id (record { rule = number; parameter = parameter }) }) number rule parameter Waiting))
      → IfWent (ask_event engine number parameter s) P
  ask_leaves engine number parameter ready waiting =
      if_both (own_rule engine number s) (λ rule o.
      if_enabled (slice_get rule.stages parameter) (λ stage at.
      if_only (is_unasked stage) (λ u.
      if_both (id_in (slice_get rule.args parameter)) (λ id i.
      if_there (get s.store.live id) FreedDatum (λ x there.
      record { is = by rule id x (is_closed x) (record { pending = owned engine number s rule o; stage = at ∙ ap Some (unasked stage u); arg = id_there (slice_get rule.args parameter) id i; live = there }) })))))
    where
      by : (rule : Rule) (id : ℕ) (x : Datum) (b : Bool) → IsUnasked s number parameter rule id x
          → P (if b then with_stage s number rule parameter Ready else with_stage (record s { store = subscribed s.store id (record { rule = number; parameter = parameter }) }) number rule parameter Waiting)
      by rule id x true u = ready rule id x u
      by rule id x false u = waiting rule id x u

  -- the rule isn't pending, or its parameter is ready
  pub deliver_leaves : (layout : ActorCounts) (server : ℕ) (n : Notice)
      → (set.contains s.notices n ≡ true → get s.rules n.rule ≡ None → P (record s { notices = set.remove s.notices n }))
      → ((rule : Rule) → set.contains s.notices n ≡ true → get s.rules n.rule ≡ Some rule → P (with_stage (record s { notices = set.remove s.notices n }) n.rule rule n.parameter Ready))
      → IfWent (deliver_event layout server n s) P
  deliver_leaves layout server n gone pending =
      if_only (nat_lt server layout.servers && (server_of layout.servers n.datum == server)) (λ _.
      if_only (set.contains s.notices n) (λ has.
      record { is = by (get s.rules n.rule) refl has }))
    where
      by : (found : Option Rule) → get s.rules n.rule ≡ found → set.contains s.notices n ≡ true → P (ready_at (record s { notices = set.remove s.notices n }) n found)
      by None e has = gone has e
      by (Some rule) e has = pending rule has e

  pub release_leaves : (program : List Procedure) (engine number : ℕ)
      → ((rule : Rule) (p : Procedure) → get s.rules number ≡ Some rule → is_releasable rule ≡ true → P (with_task (record s { rules = remove s.rules number }) (task_from p.kind rule)))
      → IfWent (release_event program engine number s) P
  release_leaves program engine number h =
      if_both (own_rule engine number s) (λ rule o.
      if_only (is_releasable rule) (λ settled.
      if_ok (procedure_of program rule.procedure) (λ p _. record { is = h rule p (owned engine number s rule o) settled })))
