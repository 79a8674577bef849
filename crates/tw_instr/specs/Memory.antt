-- Which instructions on data allocate.
use Rattle.std.specs.Prelude.{Bool, true, false}
use Rattle.tw_types.specs.declared.data_type.Scalar.TheVariants as scalar
use Rattle.tw_types.specs.DataType.{same_scalar}
use Rattle.tw_code.specs.declared.instr.DataInstr.{DataInstr}
use Rattle.tw_code.specs.declared.instr.DataInstr.TheVariants as on_data

-- returns whether it makes a datum, a member, a map's value or notices, or copies a value; a subscript counts only if it is a text
abbrev pub takes_memory : DataInstr → Bool
takes_memory (on_data.New write read ty) = true
takes_memory (on_data.Store datum from) = true
takes_memory (on_data.Get to datum) = true
takes_memory (on_data.Insert by container subscript member skip) = true
takes_memory (on_data.Look by member container subscript skip) = false
takes_memory (on_data.Size to container) = false
takes_memory (on_data.SubscriptAt by to container index skip) = same_scalar by scalar.Text
takes_memory (on_data.InsertValue map subscript from skip) = true
takes_memory (on_data.AddValue map subscript from) = true
takes_memory (on_data.GetValue to map subscript skip) = true
takes_memory (on_data.CopyRead to from) = false
takes_memory (on_data.CopyWrite to from) = false
takes_memory (on_data.DropRead right) = false
takes_memory (on_data.DropWrite right) = true
