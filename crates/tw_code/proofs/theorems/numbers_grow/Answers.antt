use Rattle.tw_code.proofs.Growth as growth
use Rattle.tw_code.proofs.theorems.numbers_grow.Goals as goal

pub returns : goal.returns
returns c = growth.step_grows
