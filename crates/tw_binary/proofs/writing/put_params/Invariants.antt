use Rattle.tw_binary.proofs.Names.{byte, concat, flat_map, length, param_items, take, ◌++◌, ◌≡◌}
use Rattle.tw_binary.proofs.writing.put_params.Given as goal

abbrev pub invariant-loop-param : goal.invariant-loop-param
invariant-loop-param l = l.out.items ≡ (l.fn.out.items ++ byte (length l.params)) ++ concat (flat_map param_items (take l.param-index l.params))
