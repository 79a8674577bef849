use Rattle.tw_pool_state.proofs.MainParameters.{IsBegun}
use Rattle.tw_pool_state.proofs.open.Opened.add_all.Given as goal

abbrev pub invariant-loop-param : goal.invariant-loop-param
invariant-loop-param l = IsBegun l.fn.self l.params l.fn.inputs l.param-index l.self l.rest
