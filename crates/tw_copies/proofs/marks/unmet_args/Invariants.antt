use Rattle.tw_copies.proofs.Names.{ArgsRequire, IsMet, Passes, length, ℕ, ◌+◌, ◌≤◌}
use Rattle.std.specs.Iterator.Adapters.{zip_first, zip_second}
use Rattle.std.specs.Slice.Iter.{iter_rest}
use Rattle.tw_copies.proofs.marks.unmet_args.Given as goal

-- all are met if the others are, and the others are among them
abbrev pub invariant-loop-param : goal.invariant-loop-param
invariant-loop-param l = record {
  met : IsMet l.marks (ArgsRequire l.marks l.number l.callee l.next (iter_rest (zip_first l.param-iterator)) (iter_rest (zip_second l.param-iterator))) → IsMet l.marks (ArgsRequire l.marks l.number l.callee 0 l.params l.args);
  others : (from into : ℕ) → Passes l.next (iter_rest (zip_first l.param-iterator)) (iter_rest (zip_second l.param-iterator)) from into → Passes 0 l.params l.args from into;
  few : l.next + length (iter_rest (zip_first l.param-iterator)) ≤ 8;
}
