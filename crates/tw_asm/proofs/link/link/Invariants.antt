use Rattle.tw_asm.proofs.AsmNames.{AreLinkedProcedures, map, seen_section}
use Rattle.tw_asm.proofs.link.link.Given as goal

abbrev pub invariant-loop-section : goal.invariant-loop-section
invariant-loop-section l = record {
  next : (goal.iterator-loop-section).can_next l.section-iterator;
  finite : (goal.iterator-loop-section).is_finite l.section-iterator;
  linked : AreLinkedProcedures (map seen_section l.yielded) l.procedures.items;
}
