use Rattle.std.proofs.Common.{◌∙◌, ℕ, ap}
use Rattle.tw_source.specs.Failure.{coded}
use Rattle.tw_source.specs.declared.failure.Position.TheVariants as position
use Rattle.tw_source.proofs.faulty_text.fault_failure.Goals as goal

pub returns : goal.returns
returns c = c.coded.ensures ∙ ap (λ (n : ℕ). coded 65 n (position.Line c.args.fault.line c.args.at.0 c.args.at.1)) c.number.ensures
