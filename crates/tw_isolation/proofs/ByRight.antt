-- An instruction of an accepted program that changes a content has a write right.
use Rattle.std.proofs.Common.{◌≡◌, ℕ, Bool, true, ◌&&◌, ◌==◌, if◌then◌else◌, List, [], Some, slice_get, refl, sym, subst, ◌∙◌, arith}
use Rattle.tw_types.specs.DataType.{is_container_by, is_plain_map, is_scalar, is_sums, same_scalar}
use Rattle.tw_types.specs.Mode.{is_write}
use Rattle.tw_types.specs.declared.data_type.Scalar.{Scalar}
use Rattle.tw_types.specs.declared.data_type.Scalar.TheVariants as scalar
use Rattle.tw_code.specs.declared.instr.DataInstr.{DataInstr}
use Rattle.tw_code.specs.declared.instr.DataInstr.TheVariants as on_data
use Rattle.tw_code.specs.accepting.Question.{passes}
use Rattle.tw_code.specs.accepting.Typing.{requires_at, requires_by_instr, requires_data, requires_params, writes_container_by, writes_map, writes_scalar, writes_sums}
use Rattle.tw_code.specs.machine.Holders.{typing_of}
use Rattle.tw_code.specs.machine.Rights.{RightType, Typing, right_at}
use Rattle.tw_code.proofs.Leaving.{is_running_at}
use Rattle.std.proofs.lemmas.Bool.{and_parts}
use Rattle.std.proofs.lemmas.Option.{same_Some, slice_get-get_or, slice_get_within}
use Rattle.tw_soundness.proofs.Values.{AllYes, all_yes, passed, yes_after}
use Rattle.tw_isolation.specs.Isolation.{ChangesByWriteRight, changed_register}

module _ (registers : List Scalar) (typing : Typing) where
  abbrev Writes : ℕ → Type 0
  Writes register = (right : RightType) × (right_at typing register ≡ Some right) × (is_write right.mode ≡ true)

  -- a right that passes a test of its mode and another one is a write right
  of_test : (register : ℕ) (test other : RightType → Bool) → ((right : RightType) → test right ≡ (is_write right.mode && other right)) → passes test (right_at typing register) ≡ true → Writes register
  of_test register test other is met =
      let found = passed test (right_at typing register) met in
      (found.0, found.1, (and_parts (is_write found.0.mode) (other found.0) (sym (is found.0) ∙ found.2)).0)

  -- one line for each instruction
  written : (i : DataInstr) (register : ℕ) → changed_register i ≡ Some register → AllYes (requires_data registers i typing) → Writes register
  written (on_data.New write read ty) register e met = cc
  written (on_data.Store datum from) register e met = subst Writes (same_Some datum register e) (of_test datum writes_scalar (λ r. is_scalar r.ty) (λ r. refl) met.0)
  written (on_data.Get to datum) register e met = cc
  written (on_data.Insert by container subscript member skip) register e met =
      subst Writes (same_Some container register e) (of_test container (writes_container_by by) (λ r. is_container_by by r.ty) (λ r. refl) met.0)
  written (on_data.Look by member container subscript skip) register e met = cc
  written (on_data.Size to container) register e met = cc
  written (on_data.SubscriptAt by to container index skip) register e met = cc
  written (on_data.InsertValue map subscript from skip) register e met = subst Writes (same_Some map register e) (of_test map writes_map (λ r. is_plain_map r.ty) (λ r. refl) met.0)
  written (on_data.AddValue map subscript from) register e met =
      subst Writes (same_Some map register e) (of_test map writes_sums (λ r. is_sums r.ty && same_scalar scalar.Int r.ty.scalar) (λ r. refl) met.0)
  written (on_data.GetValue to map subscript skip) register e met = cc
  written (on_data.CopyRead to from) register e met = cc
  written (on_data.CopyWrite to from) register e met = cc
  written (on_data.DropRead right) register e met = cc
  written (on_data.DropWrite right) register e met = cc

pub changes_by_write_right : ChangesByWriteRight
changes_by_write_right program typings event s id right c =
    let here = is_running_at program c.actor s c.at c.runs in
    let p = c.at.procedure in
    let place = c.at.frame.position.place in
    let typed = right.typed c.at.frame.procedure p here.procedure in
    let inside = slice_get_within p.code place c.at.instr here.instr in
    let there : slice_get (typings c.at.frame.procedure) place ≡ Some (typing_of typings c.at.frame) = slice_get-get_or (typings c.at.frame.procedure) place [] (omega (arith, typed.long, inside)) in
    let met = yes_after (if place == 0 then requires_params p else []) (requires_by_instr program p c.at.instr (typing_of typings c.at.frame))
    (all_yes (requires_at program p place c.at.instr (typing_of typings c.at.frame)) (typed.asks place c.at.instr (typing_of typings c.at.frame) here.instr there)) in
    written p.registers (typing_of typings c.at.frame) c.executed c.register c.changed
    (subst (λ i. AllYes (requires_by_instr program p i (typing_of typings c.at.frame))) c.here met)
