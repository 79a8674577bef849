-- RULE and PUT: consequences of the theorem, if a task is at one.
use Rattle.std.proofs.Common.{◌≡◌, ◌==◌, ℤ, Bool, true, false, List, Some, Result, Ok, Err, refl, sym, ap, subst, ◌∙◌, length, slice_get}
use Rattle.tw_pool_state.proofs.PartNames.{Action, Actor, ActorCounts, AllYes, AreParts, ArgumentNotClosed, Call, Called, Cause, Context, FrameView, FreedDatum, Held, Kind, MovedArgs, Notices, Parts, Procedure, Trap, TypedProgram, Typing, WrongCall, WrongRegister, WrongType, all_pass, asked_at, bare_frame, called, context_of, get, is_closed_if_required, is_control, is_live, is_of_type, mapped, moved_args, must_then, ok_first, priority_at, put_called, requires_callee, requires_priority, safe, same_Some, state_of, there_then, typing_at, typings_of, values_suit, yes_after}
use Rattle.std.specs.declared.option.Option.{Option}
use Rattle.tw_code.specs.declared.instr.Instr.TheVariants as instr
use Rattle.tw_code.specs.machine.Machine.{step}
use Rattle.tw_soundness.proofs.Called.{callee_met}
use Rattle.tw_pool_state.proofs.Fitting.{seen}
use Rattle.tw_pool_state.proofs.Handing.{AreSuited}
use Rattle.tw_pool_state.proofs.Kinding.{suited}
use Rattle.tw_pool_state.proofs.Law.{held}

-- the action's task, and that its arguments can be taken
pub record IsNamed (program : List Procedure) (kind : Kind) (c : Context) (action : Action) (file : List (Option Held)) : Type 0 where
  pub procedure : Procedure
  pub is : slice_get program action.procedure ≡ Some procedure
  pub long : length action.args ≡ length procedure.params
  pub control : is_control kind ≡ true
  pub suits : AreSuited file procedure.params action.args
  pub values : values_suit c.position.values procedure.params action.args ≡ true
  pub priority : ℤ
  pub priority_is : priority_at c.position action.priority ≡ Ok priority
  pub given : MovedArgs
  pub handed : moved_args c.position.values c.rights procedure.params action.args ≡ Ok given
  pub goes : called program kind c action ≡ Ok (record {
    task = record { kind = procedure.kind; procedure = action.procedure; priority = priority; target = action.target; args = given.args };
    params = procedure.params;
    rights = given.rights;
  })

module _ (verified : TypedProgram) (layout : ActorCounts) (old : Parts) (notices : Notices) (h : AreParts verified layout old notices)
    (actor : Actor) (f : FrameView) (p : Procedure) (action : Action) (runs : get old.running_tasks.tasks actor ≡ Some f) (here : slice_get verified.program f.procedure ≡ Some p) where
  abbrev pub context : Context
  context = context_of (state_of old notices) (bare_frame f)

  there : get (mapped bare_frame old.running_tasks.tasks) actor ≡ Some (bare_frame f)
  there = seen bare_frame old.running_tasks.tasks actor (Some f) runs

  abbrev typing : Typing
  typing = typing_at (typings_of verified) f.procedure f.position.place

  named : (waits : Bool) → AllYes (requires_callee waits p.registers (slice_get verified.program action.procedure) action.args typing) → (call : Called) → called verified.program p.kind context action ≡ Ok call → IsNamed verified.program p.kind context action f.held
  named waits met call ok =
      let callee = callee_met waits p.registers (slice_get verified.program action.procedure) action.args typing met in
      let known = there_then (slice_get verified.program action.procedure) WrongCall _ call ok in
      let count = must_then (length action.args == length known.0.params) WrongCall _ call known.2 in
      let control = must_then (is_control p.kind) WrongCall _ call count.1 in
      let values = must_then (values_suit f.position.values known.0.params action.args) WrongRegister _ call control.1 in
      let number = ok_first (priority_at f.position action.priority) _ call values.1 in
      let given = ok_first (moved_args f.position.values context.rights known.0.params action.args) _ call number.2 in
      let live = must_then (all_pass is_live old.store.store.live known.0.params given.0.args) FreedDatum _ call given.2 in
      let typed = must_then (all_pass is_of_type old.store.store.live known.0.params given.0.args) WrongType _ call live.1 in
      let same : callee.procedure ≡ known.0 = same_Some callee.procedure known.0 (sym callee.is ∙ known.1) in
      record {
        procedure = known.0;
        is = known.1;
        long = callee.long ∙ ap (λ (q : Procedure). length q.params) same;
        control = control.0;
        suits = subst (λ (q : Procedure). AreSuited f.held q.params action.args) same
            (suited waits p.registers callee.procedure.params action.args f.held typing (h.rights_fit.frames actor f runs).kinds callee.met);
        values = values.0;
        priority = number.0;
        priority_is = number.1;
        given = given.0;
        handed = given.1;
        goes = ok ∙ sym typed.1;
      }

  -- ---- RULE

  module _ (at : slice_get p.code f.position.place ≡ Some (instr.Rule action)) where
    rule_trapped : (why : Cause) → called verified.program p.kind context action ≡ Err why → step verified.program layout (Call actor) (state_of old notices) ≡ Trap why
    unfolding step
    rule_trapped why err = let t = there in rw (t, here, at, err) refl

    pub rules : IsNamed verified.program p.kind context action f.held
    rules = by (called verified.program p.kind context action) refl
      where
        by : (o : Result Called Cause) → called verified.program p.kind context action ≡ o → IsNamed verified.program p.kind context action f.held
        by (Ok call) ok = named true (yes_after (requires_priority p.registers action.priority) _ (asked_at verified.program (typings_of verified) h.runnable.is h.runnable.right f.procedure p here f.position.place (instr.Rule action) at).1) call ok
        by (Err why) err = absurd ((safe verified.program (typings_of verified) h.runnable.is h.runnable.right layout (state_of old notices) (held verified layout old notices h)).no_trap (Call actor) why (rule_trapped why err))

  -- ---- PUT

  module _ (at : slice_get p.code f.position.place ≡ Some (instr.Put action)) where
    put_trapped : (why : Cause) → put_called verified.program p.kind context action ≡ Err why → step verified.program layout (Call actor) (state_of old notices) ≡ Trap why
    unfolding step
    put_trapped why err = let t = there in rw (t, here, at, err) refl

    -- the arguments of `closed` parameters are also closed
    pub record IsPut : Type 0 where
      pub is_named : IsNamed verified.program p.kind context action f.held
      pub is_closed : put_called verified.program p.kind context action ≡ called verified.program p.kind context action

    pub puts : IsPut
    puts = by (put_called verified.program p.kind context action) refl
      where
        by : (o : Result Called Cause) → put_called verified.program p.kind context action ≡ o → IsPut
        by (Ok call) ok =
            let outer = ok_first (called verified.program p.kind context action) _ call ok in
            let closed = must_then (all_pass is_closed_if_required old.store.store.live outer.0.params outer.0.task.args) ArgumentNotClosed _ call outer.2 in
            record {
              is_named = named false (yes_after (requires_priority p.registers action.priority) _ (asked_at verified.program (typings_of verified) h.runnable.is h.runnable.right f.procedure p here f.position.place (instr.Put action) at).1) outer.0 outer.1;
              is_closed = ok ∙ sym closed.1 ∙ sym outer.1;
            }
        by (Err why) err = absurd ((safe verified.program (typings_of verified) h.runnable.is h.runnable.right layout (state_of old notices) (held verified layout old notices h)).no_trap (Call actor) why (put_trapped why err))
