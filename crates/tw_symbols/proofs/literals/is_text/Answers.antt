use Rattle.std.proofs.Common.{rules, string_bytes}
use Rattle.tw_symbols.proofs.LiteralWords as literals
use Rattle.tw_symbols.proofs.literals.is_text.Goals as goal

pub returns-in-Some : goal.returns-in-Some
returns-in-Some c =
    let utf8 = c.in-Ok.ensures.cases in
    literals.is_text c.args.word.now c.as_bytes.result.now (string_bytes c.in-Some.text) c.as_str.result.now c.in-Some.rest.now c.is_whole.result c.is_whole.ensures (search rules) utf8.1 (search rules) (rw c.in-Some.is at c.in_ok-text.ensures.exact)

pub returns-in-None : goal.returns-in-None
returns-in-None c = literals.no_text c.args.word.now c.as_bytes.result.now (search rules) (rw c.in-None.is at c.in_ok-text.ensures.exact)
