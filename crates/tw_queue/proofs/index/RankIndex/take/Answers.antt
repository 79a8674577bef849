use Rattle.tw_queue.proofs.Ranking.{control_gone, leaf_gone}
use Rattle.tw_queue.proofs.index.RankIndex.take.Goals as goal

pub returns-in-Engine-clause-taken : goal.returns-in-Engine-clause-taken
returns-in-Engine-clause-taken c = control_gone c.args.self.now.control c.args.self.now.leaf c.take.new.self c.take.result c.take.ensures.taken

pub returns-in-Worker-clause-taken : goal.returns-in-Worker-clause-taken
returns-in-Worker-clause-taken c = leaf_gone c.args.self.now.control c.args.self.now.leaf c.take-in-Worker.new.self c.take-in-Worker.result c.take-in-Worker.ensures.taken
