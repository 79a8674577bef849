use Rattle.tw_host.proofs.Masks.{set_bit}
use Rattle.tw_host.proofs.bits.with.Goals as goal

pub returns : goal.returns
returns c = set_bit c.args.bits c.args.index c.bit.result c.requires c.bit.ensures.is
