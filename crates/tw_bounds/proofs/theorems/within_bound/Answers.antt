use Rattle.tw_bounds.proofs.Along.{within}
use Rattle.tw_bounds.proofs.theorems.within_bound.Goals as goal

pub returns : goal.returns
returns c = λ program typings weights bound is are bounds. within program typings is are weights bounds.0 bounds.1 bound bounds.2
