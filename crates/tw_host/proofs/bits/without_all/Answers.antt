use Rattle.std.proofs.Common.{arith}
use Rattle.tw_host.proofs.Masks.{cleared}
use Rattle.tw_host.proofs.bits.without_all.Goals as goal

pub returns : goal.returns
returns c = cleared c.args.due c.args.bits (omega (arith, c.ranges.due.fits)) (omega (arith, c.ranges.bits.fits))
