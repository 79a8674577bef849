use Rattle.tw_inputs.proofs.InputReading.{no_text_found, text_found}
use Rattle.tw_inputs.proofs.parts.InputTextPart.first.Goals as goal

pub returns-in-Some : goal.returns-in-Some
returns-in-Some c = rw c.from.ensures (text_found c.args._mark c.args.bytes.now c.in-Some.rest.now _ (rw c.in-Some.is at c.in_ok-text.ensures.exact))

pub returns-in-None : goal.returns-in-None
returns-in-None c = no_text_found c.args._mark c.args.bytes.now (rw c.in-None.is at c.in_ok-text.ensures.exact)
