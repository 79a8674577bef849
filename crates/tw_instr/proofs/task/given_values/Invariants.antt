use Rattle.tw_instr.proofs.Names.{arg_of, drop, filled, length, map, values_in, ◌≡◌, ◌≤◌}
use Rattle.tw_instr.proofs.Filling.{after}
use Rattle.tw_instr.proofs.task.given_values.Given as goal

abbrev pub invariant-loop-arg : goal.invariant-loop-arg
invariant-loop-arg l = record {
  rest : filled (values_in (map arg_of l.args)) l.types ≡ after l.values.items (filled (values_in (map arg_of (drop l.arg-index l.args))) (drop (length l.values.items) l.types));
  fits : length l.values.items ≤ length l.types;
}
