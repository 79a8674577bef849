use Rattle.tw_machine.proofs.Parameters.{IsBegun}
use Rattle.tw_machine.proofs.opened.Opened.of.Given as goal

abbrev pub invariant-loop-param : goal.invariant-loop-param
invariant-loop-param l = IsBegun l.params l.fn.inputs l.param-index l.opened l.rest
