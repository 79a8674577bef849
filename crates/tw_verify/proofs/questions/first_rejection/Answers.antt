use Rattle.tw_verify.proofs.VerifierNames.{Option, ap, lowest_of, option_map, rejection_in, requires_value, sym, verify_error_code, ℕ, ◌∙◌}
use Rattle.tw_verify.proofs.Numbers.{rejection_in-append}
use Rattle.tw_verify.proofs.questions.first_rejection.Goals as goal

pub returns : goal.returns
returns c = λ questions h.
    c.lowest.ensures
    ∙ ap (λ (first : Option ℕ). lowest_of first (option_map verify_error_code c.args.others)) c.value_rejection.ensures
    ∙ ap (lowest_of (rejection_in (requires_value c.args.registers.now c.args.register c.args.ty))) h
    ∙ sym (rejection_in-append (requires_value c.args.registers.now c.args.register c.args.ty) questions)
