-- The instructions that copy write rights.
use Rattle.std.specs.Prelude.{Bool, true, false}
use Rattle.tw_copies.proofs.Names.{DataInstr, Instr}
use Rattle.tw_code.specs.declared.instr.DataInstr.TheVariants as on_data
use Rattle.tw_code.specs.declared.instr.Instr.TheVariants as instr

abbrev pub is_copy : DataInstr → Bool
is_copy (on_data.CopyWrite to from) = true
is_copy i = false

-- holds for a DUPW
abbrev pub copies_write : Instr → Bool
copies_write (instr.Data i) = is_copy i
copies_write (instr.Local i) = false
copies_write (instr.Rule action) = false
copies_write (instr.Put action) = false
copies_write instr.Ret = false
