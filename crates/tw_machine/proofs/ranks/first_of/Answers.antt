use Rattle.tw_machine.proofs.Leasts.{first_least, none_least}
use Rattle.tw_machine.proofs.ranks.first_of.Goals as goal

pub returns-in-Some : goal.returns-in-Some
returns-in-Some c = first_least c.args.set.now c.in-Some.rank.now c.in-Some.ensures.member c.in-Some.ensures.least

pub returns-in-None : goal.returns-in-None
returns-in-None c = none_least c.args.set.now c.in-None.ensures.variant
