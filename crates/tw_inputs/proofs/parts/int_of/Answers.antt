use Rattle.std.proofs.Common.{◌∙◌, Err, Ok, Result, ℤ, Some, ap}
use Rattle.std.specs.Result.{result_ok}
use Rattle.tw_lexer.specs.declared.numbers.TokenError.{TokenError}
use Rattle.tw_lexer.proofs.Readings.{signed_same}
use Rattle.tw_inputs.proofs.InputReading.{no_int, same_int}
use Rattle.tw_inputs.proofs.parts.int_of.Goals as goal

pub returns-in-Ok-clause-is : goal.returns-in-Ok-clause-is
returns-in-Ok-clause-is c = ap Some (same_int c.in-Ok.n c.in-Ok.ensures.1) ∙ ap (λ (r : Result ℤ TokenError). result_ok r) (signed_same c.args.text.now (Ok c.in-Ok.n) c.in-Ok.ensures)

pub returns-in-Err-clause-is : goal.returns-in-Err-clause-is
returns-in-Err-clause-is c = ap (λ (r : Result ℤ TokenError). result_ok r) (signed_same c.args.text.now (Err c.in-Err.field-0) c.in-Err.ensures)

pub returns-in-Err-clause-encoded : goal.returns-in-Err-clause-encoded
returns-in-Err-clause-encoded c = no_int c.args.text.now c.in-Err.field-0 c.in-Err.ensures
