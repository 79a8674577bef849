use Rattle.tw_asm.proofs.AsmNames.{map, section_numbers, seen_section, take, ◌≡◌}
use Rattle.tw_asm.proofs.line_numbers.line_numbers.Given as goal

abbrev pub invariant-loop-section : goal.invariant-loop-section
invariant-loop-section l = l.procedures.items ≡ take l.section-index (map section_numbers (map seen_section l.sections))
