use Rattle.tw_instr.proofs.Names.{iter_rest, values_suit, zip_first, zip_second, ◌≡◌}
use Rattle.tw_instr.proofs.arguments.values_suit.Given as goal

abbrev pub invariant-loop-param : goal.invariant-loop-param
invariant-loop-param l = values_suit l.position.values l.params l.registers ≡ values_suit l.position.values (iter_rest (zip_first l.param-iterator)) (iter_rest (zip_second l.param-iterator))
