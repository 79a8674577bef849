use Rattle.tw_machine.proofs.RankSets.{added_set}
use Rattle.tw_machine.proofs.ranks.add_set.Goals as goal

pub returns-clause-added : goal.returns-clause-added
returns-clause-added c = added_set c.args.target c.args.sets.now c.insert.new.self c.in_ok-set.set c.args.rank c.requires c.in_ok-set.ensures c.in_ok-insert.ensures.updates
