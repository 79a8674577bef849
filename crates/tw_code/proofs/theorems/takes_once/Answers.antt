use Rattle.tw_code.proofs.Taken as taken
use Rattle.tw_code.proofs.theorems.takes_once.Goals as goal

pub returns : goal.returns
returns c = taken.takes_once
