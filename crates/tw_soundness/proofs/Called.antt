-- RULE and PUT don't trap if their checks hold.
use Rattle.std.proofs.Common.{◌≡◌, ℕ, ℤ, ◌+◌, ◌<◌, ◌==◌, Bool, true, false, if◌then◌else◌, List, [], ◌∷◌, length, slice_get, Option, Some, None, refl, ap, ◌∙◌, arith}
use Rattle.tw_soundness.proofs.MachineNames.{Action, ArgumentNotClosed, Called, Context, Datum, FreedDatum, MovedArgs, Ok, Param, Procedure, Scalar, Typing, ValuesFit, WrongCall, WrongRegister, WrongType, all_pass, called, eq-eqb, eqb-true, get, held_is_there, is_closed_if_required, is_control, is_live, is_of_type, moved_args, ok_or, over, priority_at, procedure_of, put_called, read_by, requires_action, requires_args, requires_callee, requires_priority, values_suit, without_args, write_by}
use Rattle.tw_types.specs.declared.data_type.Scalar.TheVariants as scalar
use Rattle.tw_code.specs.declared.instr.Priority.{Priority}
use Rattle.tw_code.specs.declared.instr.Priority.TheVariants.{Constant, Computed}
use Rattle.tw_soundness.proofs.Over.{over_params}
use Rattle.tw_soundness.proofs.Given.{GivenSo, moved_goes, values_met, all_live, all_typed, all_closed}
use Rattle.tw_soundness.proofs.Values.{AllYes, declared_as, int_there, yes_before, yes_after}
use Rattle.tw_soundness.proofs.Registers.{Fits}
use Rattle.tw_soundness.proofs.Steps.{Goes, goes, goes_must, goes_more}

-- the procedure that is called, with as many parameters as arguments
pub record Callee (waits : Bool) (registers : List Scalar) (o : Option Procedure) (args : List ℕ) (typing : Typing) : Type 0 where
  pub procedure : Procedure
  pub is : o ≡ Some procedure
  pub long : length args ≡ length procedure.params
  pub met : AllYes (requires_args waits registers procedure.params args typing)

pub callee_met : (waits : Bool) (registers : List Scalar) (o : Option Procedure) (args : List ℕ) (typing : Typing) → AllYes (requires_callee waits registers o args typing) → Callee waits registers o args typing
callee_met waits registers None args typing met = let z : false ≡ true = met.0 in cc
callee_met waits registers (Some p) args typing met = by (length args == length p.params) refl met
  where
    by : (b : Bool) → (length args == length p.params) ≡ b → AllYes (if b then requires_args waits registers p.params args typing else (13, false) ∷ []) → Callee waits registers (Some p) args typing
    by true e met = record { procedure = p; is = refl; long = eqb-true (length args) (length p.params) e; met = met }
    by false e met = let z : false ≡ true = met.0 in cc

module _ (program : List Procedure) (p : Procedure) (c : Context) (typing : Typing) (r w : ℕ → ℕ) (action : Action) (fits : Fits typing c r w) (values : ValuesFit p.registers c.position.values) where
  -- the register of a computed one holds an integer
  priority_there : (priority : Priority) → AllYes (requires_priority p.registers priority) → (n : ℤ) × (priority_at c.position priority ≡ Ok n)
  priority_there (Constant n) met = (n, refl)
  priority_there (Computed register) met = int_there p.registers c.position values register (declared_as (slice_get p.registers register) scalar.Int met.1.0)

  -- a call, and the rights that were moved into it
  pub record CalledSo (waits : Bool) (call : Called) : Type 0 where
    pub callee : Procedure
    pub is : slice_get program action.procedure ≡ Some callee
    pub procedure : call.task.procedure ≡ action.procedure
    pub params : call.params ≡ callee.params
    pub so : GivenSo waits c.store callee.params typing c.rights (without_args callee.params action.args typing) (record { args = call.task.args; rights = call.rights })

  -- the data of rights that were moved were held, so they are live
  live_so : (waits : Bool) (params : List Param) (left : Typing) (given : MovedArgs) → GivenSo waits c.store params typing c.rights left given → (d : ℕ) → 0 < over_params (read_by d) params given.args + over_params (write_by d) params given.args → (x : Datum) × (get c.store.live d ≡ Some x)
  live_so waits params left given so d some =
      let a = so.reads d in
      let b = so.writes d in
      held_is_there c.store.live (λ e. over (read_by e) typing c.rights + r e) (λ e. over (write_by e) typing c.rights + w e) d fits.balanced (omega arith)

  pub called_goes : (waits : Bool) → AllYes (requires_action waits program p action typing) → Goes (called program p.kind c action) (CalledSo waits)
  called_goes waits met =
      let callee = callee_met waits p.registers (slice_get program action.procedure) action.args typing (yes_after (requires_priority p.registers action.priority) _ met.1) in
      let priority = priority_there action.priority (yes_before (requires_priority p.registers action.priority) _ met.1) in
      let q = callee.procedure in
      goes (procedure_of program action.procedure) _ _ q (ap (λ o. ok_or o WrongCall) callee.is)
      (goes_must (length action.args == length q.params) WrongCall _ _ (eq-eqb (length action.args) (length q.params) callee.long)
      (goes_must (is_control p.kind) WrongCall _ _ met.0
      (goes_must (values_suit c.position.values q.params action.args) WrongRegister _ _ (values_met waits c.store p.registers c.position.values values q.params action.args typing callee.met)
      (goes (priority_at c.position action.priority) _ _ priority.0 priority.1
      (goes_more (moved_args c.position.values c.rights q.params action.args) _ _ _ (moved_goes waits c.store p.registers c.position.values values q.params action.args typing c.rights fits.rights callee.met callee.long)
      (λ given so.
      goes_must (all_pass is_live c.store.live q.params given.args) FreedDatum _ _ (all_live waits c.store q.params given.args so.args (live_so waits q.params _ given so))
      (goes_must (all_pass is_of_type c.store.live q.params given.args) WrongType _ _ (all_typed waits c.store q.params given.args so.args)
      (record { callee = q; is = callee.is; procedure = refl; params = refl; so = so }))))))))

  pub put_goes : AllYes (requires_action false program p action typing) → Goes (put_called program p.kind c action) (CalledSo false)
  put_goes met = goes_more (called program p.kind c action) _ _ _ (called_goes false met)
      (λ call so. goes_must (all_pass is_closed_if_required c.store.live call.params call.task.args) ArgumentNotClosed _ _
      (ap (λ ps. all_pass is_closed_if_required c.store.live ps call.task.args) so.params ∙ all_closed c.store so.callee.params call.task.args so.so.args) so)
