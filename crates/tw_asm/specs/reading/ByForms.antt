-- Operands that are read by their forms.
use Rattle.std.specs.Prelude.{ℕ, List, Option, None, Result, Err}
use Rattle.tw_code.specs.declared.form.Form.{Form}
use Rattle.tw_code.specs.declared.form.Form.TheVariants.{Value, Right, Number, Iterations, TypeOf, Skip}
use Rattle.tw_code.specs.declared.operands.Operands.{Operands}
use Rattle.tw_code.specs.declared.version.Version.{Version}
use Rattle.tw_code.specs.format.Operands.{gathered, none, with_operand}
use Rattle.tw_code.specs.format.Table.{Operand, holds}
use Rattle.tw_types.specs.Nesting.{NestedScalar}
use Rattle.tw_lexer.specs.Digits.{as_is}
use Rattle.tw_lexer.specs.Words.{Word}
use Rattle.tw_lexer.specs.declared.numbers.TokenError.{TokenError}
use Rattle.tw_lexer.specs.declared.numbers.TokenError.TheVariants as error
use Rattle.tw_asm.specs.reading.Lines.{contents_of, label_in, line_in, line_of}
use Rattle.tw_asm.specs.reading.Operands.{Goal, natural_in, number_in, register_in}

-- holds of a form whose operand is one word, whatever follows
abbrev pub IsOfOneWord : Form → Type 0
IsOfOneWord Value = Unit {0}
IsOfOneWord Right = Unit {0}
IsOfOneWord Number = Unit {0}
IsOfOneWord Iterations = Unit {0}
IsOfOneWord form = ⊥

abbrev pub word_in : Form → Word → Result Operand TokenError
word_in Value w = as_is (holds Value) (register_in 118 w)
word_in Right w = as_is (holds Right) (register_in 100 w)
word_in Number w = as_is (holds Number) (number_in w)
word_in Iterations w = as_is (holds Iterations) (natural_in 1 1000 w)
word_in form w = Err error.Form

-- reads operands of these forms, and the label that their goal names
abbrev pub gathered_in : Version → List Form → List Word → Result (Operands × Option (List ℕ)) TokenError
gathered_in version forms ws = as_is (λ x. (gathered forms (contents_of version forms x), label_in (line_of version forms) x)) (line_in (line_of version forms) ws)

abbrev pub of_goal : Goal → Operands × Option (List ℕ)
of_goal goal = (with_operand (holds Skip goal.skip) none, goal.label)

abbrev pub of_type : NestedScalar → Operands × Option (List ℕ)
of_type ty = (with_operand (holds TypeOf ty) none, None)

-- puts an operand before others
abbrev pub with_one : Operand × (Operands × Option (List ℕ)) → Operands × Option (List ℕ)
with_one x = (with_operand x.0 x.1.0, x.1.1)
