use Rattle.std.proofs.lemmas.Result.{on_ok_weaker}
use Rattle.tw_stats.proofs.depths.Depths.deepen.Goals as goal

pub returns : goal.returns
returns c = on_ok_weaker c.deepen_one-2.result (λ second most low within. second most low (c.in_ok-deepen_one.ensures most low within)) c.deepen_one-2.ensures
