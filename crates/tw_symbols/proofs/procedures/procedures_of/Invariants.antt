use Rattle.tw_symbols.specs.Seen.{seen_procedures}
use Rattle.tw_symbols.proofs.Loops.{AreGathered, lines_in}
use Rattle.tw_symbols.proofs.procedures.procedures_of.Given as goal

abbrev pub invariant-loop-index : goal.invariant-loop-index
invariant-loop-index l = record {
  next : (goal.iterator-loop-index).can_next l.index-iterator;
  finite : (goal.iterator-loop-index).is_finite l.index-iterator;
  gathered : AreGathered (lines_in l.yielded) (seen_procedures l.procedures);
}
