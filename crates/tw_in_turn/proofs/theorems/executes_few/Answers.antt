use Rattle.tw_in_turn.proofs.Metered.{executes_few}
use Rattle.tw_in_turn.proofs.theorems.executes_few.Goals as goal

pub returns : goal.returns
returns c = λ verified most is are main. executes_few verified most is are main
