use Rattle.tw_instr.proofs.Names.{all_pass, arg_of, iter_rest, map, test_of, zip_first, zip_second, ◌≡◌}
use Rattle.tw_instr.proofs.arguments.all_pass.Given as goal

abbrev pub invariant-loop-param : goal.invariant-loop-param
invariant-loop-param l = all_pass (test_of l.need) l.store.live l.params (map arg_of l.args) ≡ all_pass (test_of l.need) l.store.live (iter_rest (zip_first l.param-iterator)) (map arg_of (iter_rest (zip_second l.param-iterator)))
