-- In each state that a run reaches, actors and targets are in the layout, and what an engine asks for is a right.
use Rattle.std.proofs.Common.{◌≡◌, ◌≢◌, inl, inr, ℕ, zero, suc, ◌<◌, ◌≤◌, ◌==◌, Bool, true, false, not, ◌&&◌, nat_lt, if◌then◌else◌, List, [], ◌∷◌, map, length, slice_get, is_none, Option, Some, None, refl, sym, ap, subst, ◌∙◌, arith, nat_cmp}
use Rattle.std.specs.Prelude.{Ok, slice_set}
use Rattle.std.proofs.lemmas.Bool.{and_parts, eqb-true, ltb-true}
use Rattle.std.proofs.lemmas.Option.{same_Some}
use Rattle.std.specs.Cmp.{nat_cmp_total}
use Rattle.std.specs.FinMap.{get, insert, get-empty}
use Rattle.std.specs.FinSet as set
use Rattle.std.specs.List.{list_all}
use Rattle.std.specs.Option.{ok_or}
use Rattle.tw_types.specs.declared.actor.Actor.{Actor}
use Rattle.tw_types.specs.declared.actor.Actor.TheVariants.{Engine, Server, Worker}
use Rattle.tw_types.specs.declared.actor.Kind.{Kind}
use Rattle.tw_types.specs.declared.actor.Kind.TheVariants.{Control, Leaf}
use Rattle.tw_types.specs.declared.cause.Cause.TheVariants.{FreedDatum, WrongType, WrongCall, WrongRegister, ArgumentNotClosed, RightLeft}
use Rattle.tw_types.specs.declared.event.Event.{Event}
use Rattle.tw_types.specs.declared.event.Event.TheVariants.{Take, Local, Call, End, Ask, Deliver, Release}
use Rattle.tw_types.specs.declared.input.Input.{Input}
use Rattle.tw_types.specs.declared.notice.Notice.{Notice}
use Rattle.tw_types.specs.declared.param.Mode.{Mode}
use Rattle.tw_types.specs.declared.param.Mode.TheVariants.{Val, Closed, Ref, Write}
use Rattle.tw_types.specs.declared.param.Param.{Param}
use Rattle.tw_types.specs.declared.stage.Stage.{Stage}
use Rattle.tw_types.specs.declared.stage.Stage.TheVariants.{Unasked, Waiting, Ready}
use Rattle.tw_types.specs.declared.value.Value.{Value}
use Rattle.tw_types.specs.Actor.{actor_cmp, is_in, may_take, is_control, same_kind, number_in_kind}
use Rattle.tw_types.specs.Layout.{ActorCounts}
use Rattle.tw_types.specs.Mode.{is_val}
use Rattle.tw_types.specs.Outcome.{Went, outcome_of}
use Rattle.tw_types.specs.Result.{◌>>=◌, must}
use Rattle.tw_types.specs.Rule.{Rule, first_stage, is_unasked, is_releasable, at_stage}
use Rattle.tw_types.specs.Store.{Datum, is_closed, server_of}
use Rattle.tw_types.specs.StoreCalls.{subscribed}
use Rattle.tw_types.specs.Task.{Arg, ValueArg, RightArg, Task, is_for, best}
use Rattle.tw_types.proofs.ActorOrder.{actor_cmp_total, actor_cmp-IsAntisymmetric}
use Rattle.tw_types.proofs.Each.{Each, each_empty, each_insert, each_remove}
use Rattle.tw_types.proofs.Outcomes.{IfWent, if_both, if_ok, if_there, if_then, if_enabled, if_only, went_of}
use Rattle.tw_types.proofs.Parts.{put_or_before, before_removal}
use Rattle.tw_types.proofs.Results.{WhereOk, ok_both, ok_there, ok_then, ok_of, must_ok}
use Rattle.tw_code.specs.accepting.Needs.{up_to, needed_for, needed_by_instr, needed_by_code, needed_by_all, needed, HasTargets}
use Rattle.tw_code.specs.declared.instr.Action.{Action}
use Rattle.tw_code.specs.declared.instr.Instr.{Instr}
use Rattle.tw_code.specs.declared.instr.Instr.TheVariants as instr
use Rattle.tw_code.specs.declared.procedure.Procedure.{Procedure}
use Rattle.tw_code.specs.machine.Arguments.{MovedArgs, moved_args, with_arg, priority_at, values_suit, all_pass, is_live, is_of_type, is_closed_if_required, Called, called, put_called}
use Rattle.tw_code.specs.machine.Data.{Context, data_instr}
use Rattle.tw_code.specs.machine.Machine.{RunningInstr, running_instr_of, call_by, call_event, own_rule, id_in, ask_event, ready_at, deliver_event, release_event, is_ret, local_steps, step, run}
use Rattle.tw_code.specs.machine.Opening.{opening, reached}
use Rattle.tw_code.specs.machine.Rights.{Rights, held}
use Rattle.tw_code.specs.machine.State.{Frame, Frames, State, values_in, filled, frame_of, context_of, with_stage}
use Rattle.tw_types.proofs.Best.{best_found}
use Rattle.tw_code.proofs.Leaving.{IsRunningAt, is_running_at, owned}

-- ---- the results of an action

-- an unasked parameter is a right
abbrev pub AsksRights : List Stage → List Arg → Type 0
AsksRights stages args = (k : ℕ) → slice_get stages k ≡ Some Unasked → (id : ℕ) × (slice_get args k ≡ Some (RightArg id))

asks_more : (stages : List Stage) (args : List Arg) (stage : Stage) (arg : Arg) → AsksRights stages args → (stage ≡ Unasked → (id : ℕ) × (arg ≡ RightArg id)) → AsksRights (stage ∷ stages) (arg ∷ args)
asks_more stages args stage arg h one zero e = let right = one (same_Some stage Unasked e) in (right.0, ap Some right.1)
asks_more stages args stage arg h one (suc k) e = h k e

abbrev first_stages : List Param → List Stage
first_stages params = map (λ p. first_stage p.mode) params

not_of_value : (mode : Mode) → is_val mode ≡ true → first_stage mode ≡ Unasked → ⊥
not_of_value Val v e = cc
not_of_value Closed v e = cc
not_of_value Ref v e = cc
not_of_value Write v e = cc

handed_asks : (values : List Value) (rights : Rights) (params : List Param) (registers : List ℕ) → length registers ≡ length params → WhereOk (moved_args values rights params registers) (λ (given : MovedArgs). AsksRights (first_stages params) given.args)
handed_asks values rights [] registers few = record { is = λ k e. cc }
handed_asks values rights (p ∷ params) [] few = absurd (omega arith)
handed_asks values rights (p ∷ params) (register ∷ registers) few = by (is_val p.mode) refl (λ r. handed_asks values r params registers (omega arith))
  where
    by : (b : Bool) → is_val p.mode ≡ b → ((r : Rights) → WhereOk (moved_args values r params registers) (λ (given : MovedArgs). AsksRights (first_stages params) given.args))
        → WhereOk (if b then (ok_or (slice_get values register) WrongRegister >>= λ x. moved_args values rights params registers >>= λ others. Ok (with_arg (ValueArg x) others))
        else (held rights register >>= λ id. moved_args values (slice_set rights register None) params registers >>= λ others. Ok (with_arg (RightArg id) others))) (λ (given : MovedArgs). AsksRights (first_stages (p ∷ params)) given.args)
    by true v rest = ok_both (ok_or (slice_get values register) WrongRegister) (λ x _. ok_both (moved_args values rights params registers) (λ others e. record {
      is = asks_more (first_stages params) others.args (first_stage p.mode) (ValueArg x) (ok_of (moved_args values rights params registers) _ others (rest rights) e) (λ u. absurd (not_of_value p.mode v u));
    }))
    by false v rest = ok_both (held rights register) (λ id _. ok_both (moved_args values (slice_set rights register None) params registers) (λ others e. record {
      is = asks_more (first_stages params) others.args (first_stage p.mode) (RightArg id) (ok_of (moved_args values (slice_set rights register None) params registers) _ others (rest (slice_set rights register None)) e) (λ u. (id, refl));
    }))

pub record IsCalled (program : List Procedure) (kind : Kind) (action : Action) (call : Called) : Type 0 where
  pub by_control : is_control kind ≡ true
  pub procedure : Procedure
  pub is : slice_get program action.procedure ≡ Some procedure
  pub number : call.task.procedure ≡ action.procedure
  pub params : call.params ≡ procedure.params
  pub of_kind : call.task.kind ≡ procedure.kind
  pub target : call.task.target ≡ action.target
  pub asks : AsksRights (first_stages call.params) call.task.args

pub called_is : (program : List Procedure) (kind : Kind) (c : Context) (action : Action) → WhereOk (called program kind c action) (IsCalled program kind action)
called_is program kind c action =
    ok_there (slice_get program action.procedure) WrongCall (λ p is.
    ok_then (must (length action.args == length p.params) WrongCall) (λ few.
    ok_then (must (is_control kind) WrongCall) (λ control.
    ok_then (must (values_suit c.position.values p.params action.args) WrongRegister) (λ _.
    ok_both (priority_at c.position action.priority) (λ priority _.
    ok_both (moved_args c.position.values c.rights p.params action.args) (λ given e.
    ok_then (must (all_pass is_live c.store.live p.params given.args) FreedDatum) (λ _.
    ok_then (must (all_pass is_of_type c.store.live p.params given.args) WrongType) (λ _.
    record {
      is = record {
        by_control = must_ok (is_control kind) WrongCall control;
        procedure = p;
        is = is;
        number = refl;
        params = refl;
        of_kind = refl;
        target = refl;
        asks = ok_of (moved_args c.position.values c.rights p.params action.args) _ given (handed_asks c.position.values c.rights p.params action.args (eqb-true (length action.args) (length p.params) (must_ok (length action.args == length p.params) WrongCall few))) e;
      };
    }))))))))

pub put_called_is : (program : List Procedure) (kind : Kind) (c : Context) (action : Action) → WhereOk (put_called program kind c action) (IsCalled program kind action)
put_called_is program kind c action =
    ok_both (called program kind c action) (λ call e. ok_then (must (all_pass is_closed_if_required c.store.live call.params call.task.args) ArgumentNotClosed) (λ _. record { is = ok_of (called program kind c action) _ call (called_is program kind c action) e }))

-- ---- targets are in the layout

abbrev pub count_of : ActorCounts → Kind → ℕ
count_of layout Control = layout.engines
count_of layout Leaf = layout.workers

by_code : (kind : Kind) (program : List Procedure) (code : List Instr) (place : ℕ) (i : Instr) → slice_get code place ≡ Some i → needed_by_instr kind program i ≤ needed_by_code kind program code
by_code kind program [] place i e = cc
by_code kind program (j ∷ code) zero i e = let same = same_Some j i e in rw (← same) (omega arith)
by_code kind program (j ∷ code) (suc place) i e = let h = by_code kind program code place i e in omega arith

by_all : (kind : Kind) (program procedures : List Procedure) (number : ℕ) (p : Procedure) → slice_get procedures number ≡ Some p → needed_by_code kind program p.code ≤ needed_by_all kind program procedures
by_all kind program [] number p e = cc
by_all kind program (q ∷ procedures) zero p e = let same = same_Some q p e in rw (← same) (omega arith)
by_all kind program (q ∷ procedures) (suc number) p e = let h = by_all kind program procedures number p e in omega arith

same_itself : (kind : Kind) → same_kind kind kind ≡ true
same_itself Control = refl
same_itself Leaf = refl

-- a target of the program
pub placed : (program : List Procedure) (layout : ActorCounts) → HasTargets program layout → (number place : ℕ) (p : Procedure) (i : Instr) → slice_get program number ≡ Some p → slice_get p.code place ≡ Some i
    → (action : Action) → ((kind : Kind) → needed_by_instr kind program i ≡ needed_for kind (slice_get program action.procedure) action.target)
    → (q : Procedure) → slice_get program action.procedure ≡ Some q → up_to action.target ≤ count_of layout q.kind
placed program layout h number place p i is at action needs q there =
    let one : needed_by_instr q.kind program i ≡ up_to action.target = needs q.kind ∙ ap (λ o. needed_for q.kind o action.target) there ∙ ap (λ b. if b then up_to action.target else 0) (same_itself q.kind) in
    let code = by_code q.kind program p.code place i at in
    let all = by_all q.kind program program number p is in
    let enough = in_layout q.kind in
    omega arith
  where
    in_layout : (kind : Kind) → needed kind program ≤ count_of layout kind
    in_layout Control = h.engines
    in_layout Leaf = h.workers

as_named : (layout : ActorCounts) (kind named : Kind) (target by : Option ℕ) → kind ≡ named → target ≡ by → up_to by ≤ count_of layout named → up_to target ≤ count_of layout kind
as_named layout kind named target by is goes h = rw (is, goes) h

-- ---- properties that every event of any program keeps

module _ (program : List Procedure) (layout : ActorCounts) where
  -- a task of a control procedure is taken by an engine
  pub record IsFramePlaced (actor : Actor) (frame : Frame) : Type 0 where
    pub there : is_in layout actor ≡ true
    pub engine : (p : Procedure) → slice_get program frame.procedure ≡ Some p → is_control p.kind ≡ true → may_take actor Control ≡ true

  pub record IsTaskPlaced (task : Task) : Type 0 where
    pub target : up_to task.target ≤ count_of layout task.kind
    pub control : (p : Procedure) → slice_get program task.procedure ≡ Some p → is_control p.kind ≡ true → task.kind ≡ Control

  pub record IsRulePlaced (rule : Rule) : Type 0 where
    pub engine : rule.engine < layout.engines
    pub target : (p : Procedure) → slice_get program rule.procedure ≡ Some p → up_to rule.target ≤ count_of layout p.kind
    pub asks : AsksRights rule.stages rule.args

  abbrev pub AreFramesPlaced : Frames → Type 0
  AreFramesPlaced frames = (actor : Actor) (frame : Frame) → get frames actor ≡ Some frame → IsFramePlaced actor frame

  pub record IsPlaced (s : State) : Type 0 where
    pub frames : AreFramesPlaced s.frames
    pub tasks : Each IsTaskPlaced s.tasks
    pub rules : Each IsRulePlaced s.rules

control_kind : (kind : Kind) → is_control kind ≡ true → kind ≡ Control
control_kind Control e = refl
control_kind Leaf e = cc

-- a task of a control procedure runs on an engine of the layout
pub engine_below : (program : List Procedure) (layout : ActorCounts) (s : State) → IsPlaced program layout s → (actor : Actor) (f : Frame) (p : Procedure) → get s.frames actor ≡ Some f → slice_get program f.procedure ≡ Some p → is_control p.kind ≡ true → number_in_kind actor < layout.engines
engine_below program layout s placed actor f p runs here control = by actor (placed.frames actor f runs).there ((placed.frames actor f runs).engine p here control)
  where
    by : (a : Actor) → is_in layout a ≡ true → may_take a Control ≡ true → number_in_kind a < layout.engines
    by (Engine number) there may = ltb-true number layout.engines there
    by (Server number) there may = cc
    by (Worker number) there may = cc

-- another stage than unasked
still_unasked : (stages : List Stage) (k j : ℕ) (new : Stage) → new ≢ Unasked → slice_get (slice_set stages k new) j ≡ Some Unasked → slice_get stages j ≡ Some Unasked
still_unasked [] k j new other e = e
still_unasked (stage ∷ stages) zero zero new other e = absurd (other (same_Some new Unasked e))
still_unasked (stage ∷ stages) zero (suc j) new other e = e
still_unasked (stage ∷ stages) (suc k) zero new other e = e
still_unasked (stage ∷ stages) (suc k) (suc j) new other e = still_unasked stages k j new other e

procedure_is : (program : List Procedure) (number : ℕ) (task : Task) → WhereOk (frame_of program number task) (λ frame. frame.procedure ≡ task.procedure)
procedure_is program number task = ok_there (slice_get program task.procedure) WrongCall (λ p _. ok_both (filled (values_in task.args) p.registers) (λ values _. record { is = refl }))

module _ (program : List Procedure) (layout : ActorCounts) (targets : HasTargets program layout) (s : State) (h : IsPlaced program layout s) where
  abbrev Placed : State → Type 0
  Placed = IsPlaced program layout

  -- a frame of the same procedure
  frame_again : (actor : Actor) (old new : Frame) → get s.frames actor ≡ Some old → new.procedure ≡ old.procedure → AreFramesPlaced program layout (insert s.frames actor new)
  frame_again actor old new here same other frame e = elim (put_or_before actor_cmp_total actor_cmp-IsAntisymmetric s.frames actor new other frame e) [
    | inl is ↦ let was = h.frames actor old here in subst (λ a. IsFramePlaced program layout a frame) (sym is.0) (record { there = was.there; engine = λ p there control. was.engine p (ap (λ n. slice_get program n) (sym same ∙ ap (λ (f : Frame). f.procedure) is.1) ∙ there) control })
    | inr before ↦ h.frames other frame before
  ]

  rule_staged : (number : ℕ) (rule : Rule) → get s.rules number ≡ Some rule → (parameter : ℕ) (stage : Stage) → stage ≢ Unasked → Each (IsRulePlaced program layout) (insert s.rules number (at_stage rule parameter stage))
  rule_staged number rule is parameter stage other =
      let was = h.rules number rule is in
      each_insert nat_cmp_total (IsRulePlaced program layout) s.rules h.rules number (at_stage rule parameter stage) (record { engine = was.engine; target = was.target; asks = λ k e. was.asks k (still_unasked rule.stages parameter k stage other e) })

  taken : (actor : Actor) → IfWent (step program layout (Take actor) s) Placed
  unfolding step
  taken actor = if_only (is_in layout actor && is_none (get s.frames actor)) (λ may. if_enabled (best actor s.tasks) (λ t b. if_ok (frame_of program t.0 t.1) (λ frame f.
      let found = best_found actor s.tasks t b in
      let task = h.tasks t.0 t.1 found.0 in
      let eligible = and_parts (may_take actor t.1.kind) (is_for t.1.target (number_in_kind actor)) found.1 in
      let same = ok_of (frame_of program t.0 t.1) _ frame (procedure_is program t.0 t.1) f in
      let there = and_parts (is_in layout actor) (is_none (get s.frames actor)) may in
      record {
        is = record {
          frames = λ other g e. elim (put_or_before actor_cmp_total actor_cmp-IsAntisymmetric s.frames actor frame other g e) [
            | inl is ↦ subst (λ a. IsFramePlaced program layout a g) (sym is.0) (record { there = there.0; engine = λ p at control. subst (λ kind. may_take actor kind ≡ true) (task.control p (ap (λ n. slice_get program n) (sym same ∙ ap (λ (f : Frame). f.procedure) is.1) ∙ at) control) eligible.0 })
            | inr before ↦ h.frames other g before
          ];
          tasks = each_remove nat_cmp_total (IsTaskPlaced program layout) s.tasks h.tasks t.0;
          rules = h.rules;
        };
      })))

  called_so : (actor : Actor) → IfWent (call_event program actor s) Placed
  called_so actor = if_both (running_instr_of program actor s) (λ at e. by at at.instr (is_running_at program actor s at e) refl)
    where
      by : (at : RunningInstr) (i : Instr) → IsRunningAt program actor s at → at.instr ≡ i → IfWent (call_by program s actor at i) Placed
      by at (instr.Local i) st is = record { is = tt }
      by at (instr.Data i) st is = if_ok (data_instr i (context_of s at.frame)) (λ c _. record { is = record { frames = frame_again actor at.frame _ st.frame refl; tasks = h.tasks; rules = h.rules } })
      by at (instr.Rule action) st is = if_ok (called program at.procedure.kind (context_of s at.frame) action) (λ call e.
          let c = ok_of (called program at.procedure.kind (context_of s at.frame) action) _ call (called_is program at.procedure.kind (context_of s at.frame) action) e in
          record {
            is = record {
              frames = frame_again actor at.frame _ st.frame refl;
              tasks = h.tasks;
              rules = each_insert nat_cmp_total (IsRulePlaced program layout) s.rules h.rules s.next_rule _ (record {
                engine = engine_below program layout s h actor at.frame at.procedure st.frame st.procedure c.by_control;
                target = λ p there. as_named layout p.kind p.kind call.task.target action.target refl c.target (placed program layout targets at.frame.procedure at.frame.position.place at.procedure (instr.Rule action) st.procedure (st.instr ∙ ap Some is) action (λ kind. refl) p (ap (λ n. slice_get program n) (sym c.number) ∙ there));
                asks = c.asks;
              });
            };
          })
      by at (instr.Put action) st is = if_ok (put_called program at.procedure.kind (context_of s at.frame) action) (λ call e.
          let c = ok_of (put_called program at.procedure.kind (context_of s at.frame) action) _ call (put_called_is program at.procedure.kind (context_of s at.frame) action) e in
          record {
            is = record {
              frames = frame_again actor at.frame _ st.frame refl;
              tasks = each_insert nat_cmp_total (IsTaskPlaced program layout) s.tasks h.tasks s.next_task call.task (record {
                target = as_named layout call.task.kind c.procedure.kind call.task.target action.target c.of_kind c.target (placed program layout targets at.frame.procedure at.frame.position.place at.procedure (instr.Put action) st.procedure (st.instr ∙ ap Some is) action (λ kind. refl) c.procedure c.is);
                control = λ p there control. c.of_kind ∙ control_kind c.procedure.kind (subst (λ (q : Procedure). is_control q.kind ≡ true) (same_Some p c.procedure (sym there ∙ ap (λ n. slice_get program n) c.number ∙ c.is)) control);
              });
              rules = h.rules;
            };
          })
      by at instr.Ret st is = record { is = tt }

  asked_so : (engine number parameter : ℕ) → IfWent (ask_event engine number parameter s) Placed
  asked_so engine number parameter =
      if_both (own_rule engine number s) (λ rule o.
      if_enabled (slice_get rule.stages parameter) (λ stage at.
      if_only (is_unasked stage) (λ u.
      if_both (id_in (slice_get rule.args parameter)) (λ id i.
      if_there (get s.store.live id) FreedDatum (λ x there.
      record { is = by rule id x (is_closed x) (owned engine number s rule o) })))))
    where
      by : (rule : Rule) (id : ℕ) (x : Datum) (b : Bool) → get s.rules number ≡ Some rule
          → Placed (if b then with_stage s number rule parameter Ready else with_stage (record s { store = subscribed s.store id (record { rule = number; parameter = parameter }) }) number rule parameter Waiting)
      by rule id x true is = record { frames = h.frames; tasks = h.tasks; rules = rule_staged number rule is parameter Ready (λ e. cc) }
      by rule id x false is = record { frames = h.frames; tasks = h.tasks; rules = rule_staged number rule is parameter Waiting (λ e. cc) }

  delivered : (server : ℕ) (n : Notice) → IfWent (deliver_event layout server n s) Placed
  delivered server n =
      if_only (nat_lt server layout.servers && (server_of layout.servers n.datum == server)) (λ _.
      if_only (set.contains s.notices n) (λ _.
      record { is = by (get s.rules n.rule) refl }))
    where
      by : (o : Option Rule) → get s.rules n.rule ≡ o → Placed (ready_at (record s { notices = set.remove s.notices n }) n o)
      by None e = record { frames = h.frames; tasks = h.tasks; rules = h.rules }
      by (Some rule) e = record { frames = h.frames; tasks = h.tasks; rules = rule_staged n.rule rule e n.parameter Ready (λ e. cc) }

  released : (engine number : ℕ) → IfWent (release_event program engine number s) Placed
  released engine number =
      if_both (own_rule engine number s) (λ rule o.
      if_only (is_releasable rule) (λ _.
      if_there (slice_get program rule.procedure) WrongCall (λ p is.
      let was = h.rules number rule (owned engine number s rule o) in
      record {
        is = record {
          frames = h.frames;
          tasks = each_insert nat_cmp_total (IsTaskPlaced program layout) s.tasks h.tasks s.next_task _ (record {
            target = was.target p is;
            control = λ q there control. control_kind p.kind (subst (λ (r : Procedure). is_control r.kind ≡ true) (same_Some q p (sym there ∙ is)) control);
          });
          rules = each_remove nat_cmp_total (IsRulePlaced program layout) s.rules h.rules number;
        };
      })))

  placed_step : (event : Event) → IfWent (step program layout event s) Placed
  unfolding step
  placed_step (Take actor) = taken actor
  placed_step (Local actor n) = if_only (not (n == 0)) (λ _. if_enabled (get s.frames actor) (λ f is. if_there (slice_get program f.procedure) WrongCall (λ p _. if_both (local_steps n p.code f.position) (λ k _. record { is = record { frames = frame_again actor f _ is refl; tasks = h.tasks; rules = h.rules } }))))
  placed_step (Call actor) = called_so actor
  placed_step (End actor) = if_both (running_instr_of program actor s) (λ at _. if_only (is_ret at.instr) (λ _. if_then (outcome_of (must (list_all is_none at.frame.rights) RightLeft)) (λ _. record {
    is = record {
      frames = λ other frame e. h.frames other frame (before_removal actor_cmp_total actor_cmp-IsAntisymmetric s.frames actor other frame e).1;
      tasks = h.tasks;
      rules = h.rules;
    };
  })))
  placed_step (Ask engine rule parameter) = asked_so engine rule parameter
  placed_step (Deliver server datum rule parameter) = delivered server (record { datum = datum; rule = rule; parameter = parameter })
  placed_step (Release engine rule) = released engine rule

-- ---- runs

placed_run : (program : List Procedure) (layout : ActorCounts) → HasTargets program layout → (events : List Event) (s : State) → IsPlaced program layout s → IfWent (run program layout events s) (IsPlaced program layout)
unfolding run
placed_run program layout targets [] s h = record { is = h }
placed_run program layout targets (event ∷ events) s h = if_both (step program layout event s) (λ next e. placed_run program layout targets events next (went_of (step program layout event s) (IsPlaced program layout) next (placed_step program layout targets s h event) e))

opening_placed : (program : List Procedure) (inputs : List Input) (layout : ActorCounts) → IsPlaced program layout (opening program inputs)
unfolding opening
opening_placed program inputs layout = record {
  frames = λ actor frame e. let none : None ≡ Some frame = sym (get-empty actor_cmp actor) ∙ e in cc;
  tasks = each_insert nat_cmp_total (IsTaskPlaced program layout) _ (each_empty nat_cmp (IsTaskPlaced program layout)) 1 _ (record { target = omega arith; control = λ p there control. refl });
  rules = each_empty nat_cmp (IsRulePlaced program layout);
}

pub reached_placed : (program : List Procedure) (inputs : List Input) (layout : ActorCounts) (events : List Event) → HasTargets program layout → (s : State) → reached program inputs layout events ≡ Went s → IsPlaced program layout s
reached_placed program inputs layout events targets s e = went_of (reached program inputs layout events) (IsPlaced program layout) s (placed_run program layout targets events (opening program inputs) (opening_placed program inputs layout)) e
