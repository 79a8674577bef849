-- Operands that are right registers are below 16.
use Rattle.tw_copies.proofs.Names.{Action, Bool, InsertsInto, Instr, IsAt, IsInstr, IsProcedure, IsProgram, IsRegister, List, None, Option, Param, Passes, Procedure, Some, [], all_found, arith, false, if◌then◌else◌, inl, inr, is_val, length, params_in, params_of, refl, slice_get, subst, suc, true, ℕ, ◌+◌, ◌<◌, ◌∷◌, ◌≡◌, ◌≤◌, ◌⊎◌}
use Rattle.std.specs.List.{AllByRecursion}
use Rattle.tw_code.specs.declared.instr.DataInstr.TheVariants as on_data
use Rattle.tw_code.specs.declared.instr.Instr.TheVariants as instr

module _ (program : List Procedure) (proper : IsProgram program) where
  instr_is : (number place : ℕ) (i : Instr) → IsAt program number place i → IsInstr i
  instr_is number place i at = all_found IsInstr at.0.code place i (all_found IsProcedure program number at.0 proper.1 at.1).code.1 at.2

  pub copy_within : (number place to from : ℕ) → IsAt program number place (instr.Data (on_data.CopyWrite to from)) → (to < 16) × (from < 16)
  copy_within number place to from at = let is = instr_is number place (instr.Data (on_data.CopyWrite to from)) at in (omega (arith, is.1.0.1), omega (arith, is.1.1.0.1))

  insert_within : (i : Instr) (register : ℕ) → IsInstr i → InsertsInto i register → register < 16
  insert_within (instr.Local i) register is inserts = absurd inserts
  insert_within (instr.Data (on_data.New write read ty)) register is inserts = absurd inserts
  insert_within (instr.Data (on_data.Store datum from)) register is inserts = absurd inserts
  insert_within (instr.Data (on_data.Get to datum)) register is inserts = absurd inserts
  insert_within (instr.Data (on_data.Insert by container subscript member skip)) register is inserts = subst (λ k. k < 16) inserts (omega (arith, is.1.0.1))
  insert_within (instr.Data (on_data.Look by member container subscript skip)) register is inserts = absurd inserts
  insert_within (instr.Data (on_data.Size to container)) register is inserts = absurd inserts
  insert_within (instr.Data (on_data.SubscriptAt by to container index skip)) register is inserts = absurd inserts
  insert_within (instr.Data (on_data.InsertValue map subscript from skip)) register is inserts = subst (λ k. k < 16) inserts (omega (arith, is.1.0.1))
  insert_within (instr.Data (on_data.AddValue map subscript from)) register is inserts = absurd inserts
  insert_within (instr.Data (on_data.GetValue to map subscript skip)) register is inserts = absurd inserts
  insert_within (instr.Data (on_data.CopyRead to from)) register is inserts = absurd inserts
  insert_within (instr.Data (on_data.CopyWrite to from)) register is inserts = absurd inserts
  insert_within (instr.Data (on_data.DropRead right)) register is inserts = absurd inserts
  insert_within (instr.Data (on_data.DropWrite right)) register is inserts = absurd inserts
  insert_within (instr.Rule action) register is inserts = absurd inserts
  insert_within (instr.Put action) register is inserts = absurd inserts
  insert_within instr.Ret register is inserts = absurd inserts

  pub inserted_within : (number place : ℕ) (i : Instr) (register : ℕ) → IsAt program number place i → InsertsInto i register → register < 16
  inserted_within number place i register at inserts = insert_within i register (instr_is number place i at) inserts

  pub rule_args : (number place : ℕ) (action : Action) → IsAt program number place (instr.Rule action) → AllByRecursion IsRegister action.args
  rule_args number place action at = let is = instr_is number place (instr.Rule action) at in is.1.1.1.1.0.1

  pub put_args : (number place : ℕ) (action : Action) → IsAt program number place (instr.Put action) → AllByRecursion IsRegister action.args
  put_args number place action at = let is = instr_is number place (instr.Put action) at in is.1.1.1.1.0.1

  pub params_few : (number : ℕ) → length (params_of program number) ≤ 8
  params_few number = by (slice_get program number) refl
    where
      by : (o : Option Procedure) → slice_get program number ≡ o → length (params_in o) ≤ 8
      by None at = omega arith
      by (Some p) at = let few = (all_found IsProcedure program number p proper.1 at).params.0.1 in omega (arith, few)

  -- a procedure that gets a right is one of the program
  pub callee_within : (number : ℕ) (args : List ℕ) (from into : ℕ) → Passes 0 (params_of program number) args from into → (p : Procedure) × (slice_get program number ≡ Some p)
  callee_within number args from into passes = by (slice_get program number) refl passes
    where
      by : (o : Option Procedure) → slice_get program number ≡ o → Passes 0 (params_in o) args from into → (p : Procedure) × (slice_get program number ≡ Some p)
      by None at h = absurd h
      by (Some p) at h = (p, at)

pub from_within : (next : ℕ) (params : List Param) (args : List ℕ) (from into : ℕ) → AllByRecursion IsRegister args → Passes next params args from into → from < 16
from_within next [] args from into all h = absurd h
from_within next (p ∷ params) [] from into all h = absurd h
from_within next (p ∷ params) (arg ∷ args) from into all (inl h) = subst (λ k. k < 16) h.1 (let one = all.0.1 in omega (arith, one))
from_within next (p ∷ params) (arg ∷ args) from into all (inr h) = from_within (if is_val p.mode then next else next + 1) params args from into all.1 h

pub into_within : (next : ℕ) (params : List Param) (args : List ℕ) (from into : ℕ) → Passes next params args from into → into < next + length params
into_within next [] args from into h = absurd h
into_within next (p ∷ params) [] from into h = absurd h
into_within next (p ∷ params) (arg ∷ args) from into (inl h) = let same = h.2 in omega (arith, same)
into_within next (p ∷ params) (arg ∷ args) from into (inr h) = by (is_val p.mode) (λ k. into_within k params args from into) h
  where
    by : (b : Bool) → ((k : ℕ) → Passes k params args from into → into < k + length params) → Passes (if b then next else next + 1) params args from into → into < next + suc (length params)
    by true less h = let rest = less next h in omega (arith, rest)
    by false less h = let rest = less (next + 1) h in omega (arith, rest)

-- with no parameter or no argument left, nothing is passed
pub none_passed : (next : ℕ) (params : List Param) (args : List ℕ) (from into : ℕ) → (params ≡ []) ⊎ (args ≡ []) → Passes next params args from into → ⊥
none_passed next [] args from into h passes = passes
none_passed next (p ∷ params) [] from into h passes = passes
none_passed next (p ∷ params) (arg ∷ args) from into (inl e) passes = cc
none_passed next (p ∷ params) (arg ∷ args) from into (inr e) passes = cc
