use Rattle.tw_asm.proofs.AsmNames.{section_numbers, seen_section, take, ◌≡◌}
use Rattle.tw_asm.proofs.line_numbers.numbers_of.Given as goal

abbrev pub invariant-loop-line : goal.invariant-loop-line
invariant-loop-line l = l.numbers.items ≡ take l.line-index (section_numbers (seen_section l.section))
