-- Each instruction on data, with one line for each.
use Rattle.std.proofs.Common.{◌≡◌, ℕ, length, arith}
use Rattle.tw_soundness.proofs.MachineNames.{Context, DataInstr, IsDataInstr, Procedure, Typing, ValuesFit, requires_data, data_instr}
use Rattle.tw_code.specs.declared.instr.DataInstr.TheVariants as on_data
use Rattle.tw_soundness.proofs.DataLeft.{Leaves, drop_read_leaves, drop_write_leaves, store_leaves}
use Rattle.tw_soundness.proofs.DataMade.{copy_read_leaves, copy_write_leaves}
use Rattle.tw_soundness.proofs.DataMaps.{add_value_leaves, get_value_leaves, insert_value_leaves}
use Rattle.tw_soundness.proofs.DataNew.{new_leaves}
use Rattle.tw_soundness.proofs.DataReads.{get_leaves, insert_leaves, look_leaves, size_leaves, subscript_leaves}
use Rattle.tw_soundness.proofs.Registers.{Fits}
use Rattle.tw_soundness.proofs.Steps.{Goes}
use Rattle.tw_soundness.proofs.Values.{AllYes}

module _ (p : Procedure) (typing : Typing) (c : Context) (r w : ℕ → ℕ) (fits : Fits typing c r w) (values : ValuesFit p.registers c.position.values) (long : length typing ≡ 16) where
  pub data_leaves : (i : DataInstr) → IsDataInstr i → AllYes (requires_data p.registers i typing) → Goes (data_instr i c) (Leaves p.registers i typing c r w)
  data_leaves (on_data.New write read ty) is met = new_leaves p typing c r w fits values long write read ty (omega (arith, is.1.0.1)) (omega (arith, is.1.1.0.1)) is.1.1.1.0.0 met
  data_leaves (on_data.Store datum from) is met = store_leaves p typing c r w fits values datum from met
  data_leaves (on_data.Get to datum) is met = get_leaves p typing c r w fits values to datum met
  data_leaves (on_data.Insert by container subscript member skip) is met = insert_leaves p typing c r w fits values by container subscript member skip met
  data_leaves (on_data.Look by member container subscript skip) is met = look_leaves p typing c r w fits values long by member container subscript skip (omega (arith, is.1.0.1)) met
  data_leaves (on_data.Size to container) is met = size_leaves p typing c r w fits values to container met
  data_leaves (on_data.SubscriptAt by to container index skip) is met = subscript_leaves p typing c r w fits values by to container index skip met
  data_leaves (on_data.InsertValue map subscript from skip) is met = insert_value_leaves p typing c r w fits values map subscript from skip met
  data_leaves (on_data.AddValue map subscript from) is met = add_value_leaves p typing c r w fits values map subscript from met
  data_leaves (on_data.GetValue to map subscript skip) is met = get_value_leaves p typing c r w fits values to map subscript skip met
  data_leaves (on_data.CopyRead to from) is met = copy_read_leaves p typing c r w fits values long to from (omega (arith, is.1.0.1)) met
  data_leaves (on_data.CopyWrite to from) is met = copy_write_leaves p typing c r w fits values long to from (omega (arith, is.1.0.1)) met
  data_leaves (on_data.DropRead right) is met = drop_read_leaves p typing c r w fits values right met
  data_leaves (on_data.DropWrite right) is met = drop_write_leaves p typing c r w fits values right met
