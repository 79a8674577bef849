use Rattle.tw_program_output.proofs.ReplyNames.{AreExcessLines, ap, coded, failed_with, has_cap, inl, refl, subst, ℕ, ◌==◌, ◌∙◌}
use Rattle.tw_source.specs.declared.failure.Position.TheVariants as position
use Rattle.tw_program_output.proofs.Admissions.{no_lines, some_lines}
use Rattle.tw_program_output.proofs.acceptance.within_caps.Goals as goal

pub returns-then-is_empty : goal.returns-then-is_empty
returns-then-is_empty c = λ places text.
    let lines = c.in_ok-lines.lines.items in
    let none = no_lines lines c.is_empty.result (c.is_empty.ensures ∙ ap (λ (n : ℕ). n == 0) c.in_ok-lines.lines.ok.0) c.if-is_empty.true in
    (refl, (c.requires, (subst (AreExcessLines (has_cap c.args.caps) c.args.verified.program c.args.limit c.args.caps) none c.in_ok-lines.ensures.lines, c.in_ok-lines.ensures.admitted none)))

pub returns : goal.returns
returns c = λ places text.
    let lines = c.in_ok-lines.lines.items in
    let some = some_lines lines c.is_empty.result (c.is_empty.ensures ∙ ap (λ (n : ℕ). n == 0) c.in_ok-lines.lines.ok.0) c.if-is_empty.false in
    inl (c.requires, (lines, c.in_ok-lines.ensures.lines, some, c.in_ok-reply.ensures ∙ ap (failed_with (coded 79 7 position.Nowhere)) c.deref.ensures.value))
