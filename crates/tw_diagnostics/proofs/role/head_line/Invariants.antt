use Rattle.std.proofs.Common.{map}
use Rattle.tw_diagnostics.proofs.Heads.{NoHeads}
use Rattle.tw_diagnostics.proofs.role.head_line.Given as goal

-- none of the lines that are read begins a procedure
abbrev pub invariant-loop-index : goal.invariant-loop-index
invariant-loop-index l = record {
  next : (goal.iterator-loop-index).can_next l.index-iterator;
  finite : (goal.iterator-loop-index).is_finite l.index-iterator;
  none : NoHeads (map (λ item. item.1.now) l.yielded);
}
