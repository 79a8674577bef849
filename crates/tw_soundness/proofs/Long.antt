-- A typing has 16 registers, and so has the bank: a free register exists.
use Rattle.std.proofs.Common.{◌≡◌, ℕ, zero, suc, ◌-◌, ◌<◌, ◌≤◌, Bool, true, false, if◌then◌else◌, List, [], ◌∷◌, map, length, replicate, slice_get, slice_set, Option, Some, None, refl, ap, ◌∙◌, arith, length-append}
use Rattle.tw_soundness.proofs.MachineNames.{Completed, DataInstr, Instr, IsWellTyped, Param, Procedure, RightType, Rights, RightsFit, Skipped, Store, Typing, Way, a_member_read, a_read, a_write, after, after_data, get_or, is_free, is_val, length-map, length-replicate, params_of, right_at, rights_given, slice_get-get_or, slice_get_within, start_typing, without_args}
use Rattle.tw_code.specs.declared.instr.Instr.TheVariants as instr
use Rattle.tw_code.specs.declared.instr.DataInstr.TheVariants as on_data

set_long : (typing : Typing) (k : ℕ) (o : Option RightType) → length (slice_set typing k o) ≡ length typing
set_long [] k o = refl
set_long (t ∷ typing) zero o = refl
set_long (t ∷ typing) (suc k) o = let h = set_long typing k o in omega arith

args_long : (params : List Param) (args : List ℕ) (typing : Typing) → length (without_args params args typing) ≡ length typing
args_long [] args typing = refl
args_long (p ∷ params) [] typing = refl
args_long (p ∷ params) (arg ∷ args) typing = args_long params args (if is_val p.mode then typing else slice_set typing arg None) ∙ one (is_val p.mode)
  where
    one : (b : Bool) → length (if b then typing else slice_set typing arg None) ≡ length typing
    one true = refl
    one false = set_long typing arg None

-- an instruction leaves as many registers
data_long : (way : Way) (i : DataInstr) (typing : Typing) → length (after_data way i typing) ≡ length typing
data_long way (on_data.New write read ty) typing = set_long (slice_set typing write (a_write ty)) read (a_read ty) ∙ set_long typing write (a_write ty)
data_long way (on_data.Store datum from) typing = set_long typing datum None
data_long way (on_data.Get to datum) typing = refl
data_long Completed (on_data.Insert by container subscript member skip) typing = set_long typing member None
data_long Skipped (on_data.Insert by container subscript member skip) typing = refl
data_long Completed (on_data.Look by member container subscript skip) typing = set_long typing member (a_member_read (right_at typing container))
data_long Skipped (on_data.Look by member container subscript skip) typing = refl
data_long way (on_data.Size to container) typing = refl
data_long way (on_data.SubscriptAt by to container index skip) typing = refl
data_long way (on_data.InsertValue map subscript from skip) typing = refl
data_long way (on_data.AddValue map subscript from) typing = refl
data_long way (on_data.GetValue to map subscript skip) typing = refl
data_long way (on_data.CopyRead to from) typing = set_long typing to (right_at typing from)
data_long way (on_data.CopyWrite to from) typing = set_long typing to (right_at typing from)
data_long way (on_data.DropRead right) typing = set_long typing right None
data_long way (on_data.DropWrite right) typing = set_long typing right None

pub after_long : (program : List Procedure) (way : Way) (i : Instr) (typing : Typing) → length (after program way i typing) ≡ length typing
after_long program way (instr.Local i) typing = refl
after_long program way (instr.Data i) typing = data_long way i typing
after_long program way (instr.Rule action) typing = args_long (params_of program action.procedure) action.args typing
after_long program way (instr.Put action) typing = args_long (params_of program action.procedure) action.args typing
after_long program way instr.Ret typing = refl

pub start_long : (params : List Param) → length (rights_given params) ≤ 16 → length (start_typing params) ≡ 16
start_long params few =
    let a = length-append (map Some (rights_given params)) (replicate (16 - length (rights_given params)) None) in
    let b : length (map Some (rights_given params)) ≡ length (rights_given params) = length-map (rights_given params) Some in
    let c : length (replicate {A = Option RightType} (16 - length (rights_given params)) None) ≡ 16 - length (rights_given params) = length-replicate (16 - length (rights_given params)) None in
    omega arith

-- by the earlier place that leads to each
module _ (program : List Procedure) (p : Procedure) (typings : List Typing) (typed : IsWellTyped program p typings (length p.code)) (few : length (rights_given p.params) ≤ 16) where
  long_below : (n place : ℕ) (typing : Typing) → place < n → slice_get typings place ≡ Some typing → length typing ≡ 16
  long_below zero place typing l at = absurd (omega arith)
  long_below (suc n) zero typing l at = ap length (typed.begins typing at) ∙ start_long p.params few
  long_below (suc n) (suc place) typing l at =
      let inside = slice_get_within typings (suc place) typing at in
      let from = typed.entered (suc place) (omega arith) (omega (arith, typed.long)) in
      let step = from.1 in
      let earlier : from.0 < suc place = step.earlier in
      let there : slice_get typings from.0 ≡ Some (get_or typings from.0 []) = slice_get-get_or typings from.0 [] (omega arith) in
      let before = long_below n from.0 (get_or typings from.0 []) (omega arith) there in
      ap length (typed.later from.0 (suc place) step.instr step.way (get_or typings from.0 []) typing step.here there step.goes_on at) ∙ after_long program step.way step.instr (get_or typings from.0 []) ∙ before

  pub typings_long : (place : ℕ) (typing : Typing) → slice_get typings place ≡ Some typing → length typing ≡ 16
  typings_long place typing at = long_below (suc place) place typing (omega arith) at

-- a free register of the typing is there, and empty
pub free_there : (typing : Typing) (k : ℕ) → k < length typing → is_free typing k ≡ true → slice_get typing k ≡ Some None
free_there [] k l e = absurd (omega arith)
free_there (None ∷ typing) zero l e = refl
free_there (Some q ∷ typing) zero l e = cc
free_there (t ∷ typing) (suc k) l e = free_there typing k (omega arith) e

pub empty_there : (s : Store) (typing : Typing) (rights : Rights) (k : ℕ) → RightsFit s typing rights → slice_get typing k ≡ Some None → slice_get rights k ≡ Some None
empty_there s [] rights k f e = cc
empty_there s (t ∷ typing) [] k f e = absurd f
empty_there s (None ∷ typing) (None ∷ rights) zero f e = refl
empty_there s (None ∷ typing) (Some id ∷ rights) zero f e = absurd f.0
empty_there s (Some q ∷ typing) (r ∷ rights) zero f e = cc
empty_there s (t ∷ typing) (r ∷ rights) (suc k) f e = empty_there s typing rights k f.1 e
