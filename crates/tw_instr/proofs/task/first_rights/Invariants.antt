use Rattle.tw_instr.proofs.Names.{arg_of, first_rights, ids_in, length, map, take, ◌≡◌, ◌≤◌}
use Rattle.tw_instr.proofs.task.first_rights.Given as goal

abbrev pub invariant-loop-arg : goal.invariant-loop-arg
invariant-loop-arg l = record {
  rights : l.rights ≡ first_rights (ids_in (map arg_of (take l.arg-index l.args)));
  count : l.count ≡ length (ids_in (map arg_of (take l.arg-index l.args)));
  few : l.count ≤ l.arg-index;
}
