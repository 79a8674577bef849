use Rattle.std.proofs.Common.{◌∙◌, sym}
use Rattle.tw_pool.proofs.pool.Pool.is_idle.Goals as goal

pub rests-requires-clause-runs_on : goal.rests-requires-clause-runs_on
rests-requires-clause-runs_on c = λ s at. sym (c.closing.ensures s at) ∙ c.in_default.is
