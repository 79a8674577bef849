use Rattle.tw_copies.proofs.Names.{OnlyCopies, length, ◌*◌, ◌≡◌}
use Rattle.tw_copies.proofs.Marked.{left}
use Rattle.tw_copies.proofs.marks.marked.Given as goal

-- what is marked may be a copy
abbrev pub invariant-loop-slot : goal.invariant-loop-slot
invariant-loop-slot l = record {
  only : OnlyCopies l.program l.marks.items;
  long : length l.marks.items ≡ length l.program * 16;
}

abbrev pub decreases-loop-slot : goal.decreases-loop-slot
decreases-loop-slot l = left l.marks.items
