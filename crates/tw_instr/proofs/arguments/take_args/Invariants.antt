use Rattle.tw_instr.proofs.Names.{arg_of, iter_rest, length, map, moved_args, zip_first, zip_second, ◌+◌, ◌≡◌, ◌≤◌}
use Rattle.tw_instr.proofs.Handing.{after}
use Rattle.tw_instr.proofs.arguments.take_args.Given as goal

abbrev pub invariant-loop-param : goal.invariant-loop-param
invariant-loop-param l = record {
  rest : moved_args l.position.values l.initial.rights l.params l.registers ≡ after (map arg_of l.args.items) (moved_args l.position.values l.rights (iter_rest (zip_first l.param-iterator)) (iter_rest (zip_second l.param-iterator)));
  few : length l.args.items + length (iter_rest (zip_first l.param-iterator)) ≤ length l.params;
}
