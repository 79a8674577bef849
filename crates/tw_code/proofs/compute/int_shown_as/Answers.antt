use Rattle.std.proofs.Common.{ℕ, List, subst}
use Rattle.std.specs.Int.{w64}
use Rattle.std.specs.Str.Parse.{ParsesSigned}
use Rattle.tw_code.proofs.Computing.{not_shown}
use Rattle.tw_code.proofs.compute.int_shown_as.Goals as goal

pub returns-in-Err : goal.returns-in-Err
returns-in-Err c = not_shown c.args.text.now c.parse.result c.in-Err.field-0 (subst (λ (text : List ℕ). ParsesSigned w64 10 text c.parse.result) c.as_str.ensures.is c.parse.ensures.value.0) c.in-Err.is
