use Rattle.tw_asm.proofs.AsmNames.{AreLinkedCode, goals_in, map, seen_draft, seen_label}
use Rattle.tw_asm.proofs.link.link_code.Given as goal

abbrev pub invariant-loop-line : goal.invariant-loop-line
invariant-loop-line l = record {
  next : (goal.iterator-loop-line).can_next l.line-iterator;
  finite : (goal.iterator-loop-line).is_finite l.line-iterator;
  linked : AreLinkedCode (goals_in (map seen_label l.fn.labels.entries) 0 (map seen_draft l.yielded)) l.code.items;
}
