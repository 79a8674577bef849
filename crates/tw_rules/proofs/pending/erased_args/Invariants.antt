use Rattle.tw_rules.proofs.Names.{erased_arg, length, map, take, ◌≡◌, ◌≤◌}
use Rattle.tw_rules.proofs.pending.erased_args.Given as goal

abbrev pub invariant-loop-place : goal.invariant-loop-place
invariant-loop-place l = record {
  plain : l.plain ≡ map erased_arg (take l.place l.args);
  end : l.place-end ≡ length l.args;
  few : length l.args ≤ 8;
}
