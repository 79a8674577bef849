use Rattle.tw_host.proofs.Names.{and_pow, ap, arith, bit_and, pow_pos, tests}
use Rattle.tw_host.proofs.bits.has.Goals as goal

pub returns : goal.returns
returns c = grind (arith, tests, ap (bit_and c.args.bits) c.bit.ensures.is, and_pow c.args.bits c.args.index, pow_pos c.args.index)
