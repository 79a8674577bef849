use Rattle.tw_asm.proofs.AsmNames.{Drafted, List, get_or, length, seen_draft, subst, ◌<◌, ◌≡◌}
use Rattle.tw_asm.specs.declared.reading.UnlinkedLine.{UnlinkedLine}
use Rattle.tw_asm.proofs.Origins.{one_taken}
use Rattle.tw_asm.proofs.line_numbers.numbers_of.Goals as goal

pub loop-line-preserved : goal.loop-line-preserved
loop-line-preserved c =
    let all = c.deref-line-items.ensures.value in
    one_taken seen_draft (λ (d : Drafted). d.number) c.args.section.now.drafts.items c.loop-line.line-index c.line-item.result c.loop-line.numbers.items c.push.new.self.items
    (subst (λ (lines : List UnlinkedLine). c.loop-line.line-index < length lines) all c.loop-line-test.true)
    (subst (λ (lines : List UnlinkedLine). c.line-item.result ≡ get_or lines c.loop-line.line-index c.line-item.result) all c.line-item.is) c.loop-line.invariant c.in_ok-push.ensures.items
