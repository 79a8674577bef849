use Rattle.tw_program_output.proofs.ReplyNames.{ap, ℕ, ◌==◌, ◌∙◌}
use Rattle.tw_program_output.proofs.Admissions.{judged}
use Rattle.tw_program_output.proofs.admission.is_within_caps.Goals as goal

pub returns : goal.returns
returns c =
    judged c.args.verified.now.program c.args.limit c.args.caps c.in_ok-lines.lines.items c.is_empty.result (c.is_empty.ensures ∙ ap (λ (n : ℕ). n == 0) c.in_ok-lines.lines.ok.0)
    c.in_ok-lines.ensures.lines c.in_ok-lines.ensures.admitted
