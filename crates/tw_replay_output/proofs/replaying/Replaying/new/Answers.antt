use Rattle.tw_replay_output.proofs.Making.{replay_first}
use Rattle.tw_replay_output.proofs.replaying.Replaying.new.Goals as goal

pub returns-clause-begun : goal.returns-clause-begun
returns-clause-begun c = λ start h. replay_first start (record { plain = c.args.first; made = c.new.result }) h c.new.ensures.items
