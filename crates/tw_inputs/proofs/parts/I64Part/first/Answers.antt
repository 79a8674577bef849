use Rattle.tw_inputs.proofs.InputReading.{int_found, no_int_found, same_int}
use Rattle.tw_inputs.proofs.parts.I64Part.first.Goals as goal

pub returns-in-Some : goal.returns-in-Some
returns-in-Some c =
    rw (same_int c.in-Some.number c.in-Some.ensures.encoded.1)
    (int_found c.args.mark c.args.bytes.now c.cut.result.0.now c.cut.result.1.now c.in-Some.number c.requires.mark c.cut.ensures c.in-Some.ensures.encoded)

pub returns-in-None : goal.returns-in-None
returns-in-None c = no_int_found c.args.mark c.args.bytes.now c.cut.result.0.now c.cut.result.1.now c.requires.mark c.cut.ensures c.in-None.ensures.encoded
