use Rattle.tw_stats.proofs.Tables.{added}
use Rattle.tw_stats.proofs.table.Table.add.Goals as goal

pub returns : goal.returns
returns c = added c.set.result c.args.self.now c.set.new.self c.args.key c.args.amount c.at.result c.saturating_add-number.result c.at.ensures c.saturating_add-number.ensures c.set.ensures.each c.set.ensures.sum
