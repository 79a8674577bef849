use Rattle.tw_datum.proofs.Runs.{poured}
use Rattle.tw_datum.proofs.tree.Fork.pour.Goals as goal

pub returns-clause-items : goal.returns-clause-items
returns-clause-items g c = poured c.args.run.now.items c.pour.new.run.items c.push_reserved.new.self.items c.pour-2.new.run.items c.args.self.before c.args.self.own c.args.self.after c.pour.ensures.items c.push_reserved.ensures.items c.pour-2.ensures.items
