use Rattle.tw_asm.proofs.AsmNames.{[], ap, section_numbers, seen_section, ◌++◌, ◌∙◌, ◌∷◌}
use Rattle.tw_asm.proofs.Origins.{one_taken}
use Rattle.tw_asm.proofs.line_numbers.line_numbers.Goals as goal

pub loop-section-preserved : goal.loop-section-preserved
loop-section-preserved c =
    one_taken seen_section section_numbers c.args.sections.now c.loop-section.section-index c.section-item.result c.loop-section.procedures.items c.push.new.self.items
    c.loop-section-test.true c.section-item.is c.loop-section.invariant (c.in_ok-push.ensures.items ∙ ap (λ numbers. c.loop-section.procedures.items ++ (numbers ∷ [])) c.in_ok-numbers_of.ensures)
