use Rattle.tw_asm.proofs.AsmNames.{map, seen_section}
use Rattle.tw_asm.proofs.Steps.{match_more}
use Rattle.tw_asm.proofs.Taking.{finished, not_finished_there}
use Rattle.tw_asm.proofs.reading.finish.Goals as goal

pub returns : goal.returns
returns c =
    let before = map seen_section c.args.reading.sections.items in
    let last = seen_section c.in-InBody.section in
    rw c.in-InBody.is
    (match_more c.close.result
    (λ all. finished c.args.reading.version before (map seen_section all.items) c.args.reading.head_line last)
    (λ f. not_finished_there c.args.reading.version before c.args.reading.head_line last f)
    c.close.ensures)
