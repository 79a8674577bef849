use Rattle.tw_each.proofs.Names.{string_bytes, subst, sym, ℕ, ◌∙◌}
use Rattle.tw_run_output.specs.Json.{IsEndLine}
use Rattle.tw_each.proofs.answer.left_line.Goals as goal

pub returns-in_ok-line-in-Some : goal.returns-in_ok-line-in-Some
returns-in_ok-line-in-Some c =
    let left = c.args.left.now in
    let line = subst (λ (n : ℕ). IsEndLine left.outcome left.history.events n c.in-Some.closing (string_bytes c.in_ok-line-in-Some.line)) c.cut.ensures c.in_ok-line-in-Some.ensures in
    (c.in-Some.closing, sym c.closing.ensures ∙ c.in-Some.is, line, c.of-end.ensures)
