use Rattle.tw_verify.proofs.VerifierNames.{Option, ap, lowest_of, option_map, rejection_in, requires_value, sym, verify_error_code, ℕ, ◌∙◌}
use Rattle.tw_verify.proofs.Numbers.{rejection_in-append}
use Rattle.tw_verify.proofs.questions.both_rejection.Goals as goal

pub returns : goal.returns
returns c =
    let registers = c.args.registers.now in
    c.lowest.ensures
    ∙ ap (λ (first : Option ℕ). lowest_of first (option_map verify_error_code c.value_rejection-2.result)) c.value_rejection.ensures
    ∙ ap (lowest_of (rejection_in (requires_value registers c.args.first c.args.first_ty))) c.value_rejection-2.ensures
    ∙ sym (rejection_in-append (requires_value registers c.args.first c.args.first_ty) (requires_value registers c.args.second c.args.second_ty))
