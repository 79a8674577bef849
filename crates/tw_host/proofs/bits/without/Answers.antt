use Rattle.tw_host.proofs.Masks.{and_zero, clear_bit}
use Rattle.tw_host.proofs.bits.without.Goals as goal

pub returns-clause-marked : goal.returns-clause-marked
returns-clause-marked c = clear_bit c.args.bits c.args.index c.bit.result c.requires c.bit.ensures.is

pub returns-clause-none : goal.returns-clause-none
returns-clause-none c = λ is. and_zero c.args.bits _ is
