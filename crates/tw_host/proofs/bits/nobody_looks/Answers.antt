use Rattle.tw_host.proofs.Names.{arith, eqb-false}
use Rattle.tw_host.proofs.Masks.{some_looks}
use Rattle.tw_host.proofs.bits.nobody_looks.Goals as goal

pub returns : goal.returns
returns c = λ none. some_looks c.args.of_kind c.args.asleep c.args.out (omega (arith, c.ranges.of_kind.fits)) (omega (arith, c.ranges.asleep.fits)) (omega (arith, c.ranges.out.fits)) (eqb-false _ 0 none)
