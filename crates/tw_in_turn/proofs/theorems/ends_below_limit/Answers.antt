use Rattle.tw_in_turn.proofs.Bounded.{ends_by_itself, has_few}
use Rattle.tw_in_turn.proofs.theorems.ends_below_limit.Goals as goal

pub returns-clause-few : goal.returns-clause-few
returns-clause-few c = λ verified most is. has_few verified most is

pub returns-clause-itself : goal.returns-clause-itself
returns-clause-itself c = λ verified most is. ends_by_itself verified most is
