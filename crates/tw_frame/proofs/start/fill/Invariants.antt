use Rattle.tw_frame.proofs.Names.{Ok, bare_arg, length, map as each, started, take, values_in, ◌≡◌, ◌≤◌}
use Rattle.tw_frame.proofs.start.fill.Given as goal

abbrev pub invariant-loop-index : goal.invariant-loop-index
invariant-loop-index l = record {
  types : l.registers.types ≡ l.initial.registers.types;
  filled : started (take l.index l.args) l.initial.registers.types ≡ Ok l.registers.values;
  count : l.register ≡ length (values_in (each bare_arg (take l.index l.args)));
  few : l.register ≤ l.index;
}
