use Rattle.tw_pool_state.proofs.PartNames.{Some, map as each, named_values, take, ◌≡◌}
use Rattle.tw_pool_state.proofs.operands.values_of.Given as goal

abbrev pub invariant-loop-index : goal.invariant-loop-index
invariant-loop-index l = each Some l.vals.items ≡ named_values l.done.after.values (take l.index l.params) (take l.index l.args)
