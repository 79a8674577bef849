use Rattle.std.proofs.Common.{◌∙◌, ℕ, ap}
use Rattle.tw_source.specs.Failure.{fault_failure}
use Rattle.tw_source.proofs.faulty_text.text_failure.Goals as goal

pub returns : goal.returns
returns c = (c.word.result, c.fault_failure.ensures ∙ ap (λ (n : ℕ). fault_failure c.args.faulty.now.fault.no n c.word.result) c.line.ensures)
