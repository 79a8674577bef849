use Rattle.tw_asm.proofs.AsmNames.{AreTextRead, map, seen_reading}
use Rattle.tw_asm.proofs.reading.read_lines.Given as goal

abbrev pub invariant-loop-index : goal.invariant-loop-index
invariant-loop-index l = record {
  next : (goal.iterator-loop-index).can_next l.index-iterator;
  finite : (goal.iterator-loop-index).is_finite l.index-iterator;
  read : AreTextRead (map (λ item. item.1.now) l.yielded) (seen_reading l.reading);
}
