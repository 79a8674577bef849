use Rattle.std.proofs.Common.{◌∙◌, ℕ, ap, inl, inr}
use Rattle.tw_verdict.specs.declared.text.SourceVerdict.{SourceVerdict}
use Rattle.tw_verdict.specs.declared.verdict.Verdict.{Verdict}
use Rattle.tw_verdict.proofs.source.rejection_verdict.Goals as goal

pub returns-in-NoMemory : goal.returns-in-NoMemory
returns-in-NoMemory c = λ program is. inr (c.in-NoMemory.is, c.no_memory.ensures)

pub returns-in_default : goal.returns-in_default
returns-in_default c = λ program is.
    let refused = c.args.refused.now in
    let to_verdict : ℕ → Verdict = λ n. record { letter = 86; number = n; engines = 0; workers = 0; procedure = refused.procedure; place = refused.place } in
    let whole : Verdict → SourceVerdict = λ v. record { verdict = v; line = c.line_of-line.result; word = 0; column = 0 } in
    inl (c.in_default.not-NoMemory, c.line_of-line.result, c.line_of-line.ensures program is, ap whole (c.refused_at-verdict.ensures ∙ ap to_verdict c.number.ensures))
