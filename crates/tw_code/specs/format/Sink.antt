-- The operands that the code passes to a writer, as operands of the table.
use Rattle.std.specs.Prelude.{List}
use Rattle.std.specs.List.{AllByRecursion}
use Rattle.tw_code.specs.declared.form.Form.TheVariants.{Value, Right, Number, Iterations, Literal, TypeOf, Skip, Callee, Target, Args}
use Rattle.tw_code.specs.declared.sink.Operand as operands
use Rattle.tw_code.specs.declared.sink.Operand.TheVariants as operand
use Rattle.tw_code.specs.format.Program.{IsOperand}
use Rattle.tw_code.specs.format.Table.{Operand, holds}

abbrev pub seen : operands.Operand → Operand
seen (operand.Value register) = holds Value register
seen (operand.Right register) = holds Right register
seen (operand.Number n) = holds Number n
seen (operand.Iterations iterations) = holds Iterations iterations
seen (operand.Literal text) = holds Literal text.now
seen (operand.TypeOf ty) = holds TypeOf ty
seen (operand.Skip skip) = holds Skip skip
seen (operand.Callee procedure) = holds Callee procedure
seen (operand.Target target) = holds Target target
seen (operand.Args registers) = holds Args registers.now

-- holds if each is within its limits
abbrev pub AreOperands : List operands.Operand → Type 0
AreOperands given = AllByRecursion (λ o. IsOperand (seen o)) given
