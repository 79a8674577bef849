use Rattle.tw_host.proofs.Masks.{range}
use Rattle.tw_host.proofs.bits.bits.Goals as goal

pub returns : goal.returns
returns c = rw (c.bit.ensures.is, c.bit-2.ensures.is) (range c.args.from c.args.to c.requires.from c.requires.to)
