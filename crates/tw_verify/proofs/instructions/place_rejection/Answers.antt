use Rattle.tw_verify.proofs.VerifierNames.{Option, ap, lowest_of, option_map, rejection_in, requires_at, requires_by_instr, requires_params, subst, sym, verify_error_code, ℕ, ◌∙◌, ◌≡◌}
use Rattle.tw_verify.proofs.Numbers.{rejection_in-append}
use Rattle.tw_verify.proofs.instructions.place_rejection.Goals as goal

pub returns-then-place-eq0 : goal.returns-then-place-eq0
returns-then-place-eq0 c =
    let program = c.args.procedures.now in
    let p = c.args.procedure.now in
    let i = c.args.instr.now in
    let t = c.args.typing.now in
    subst (λ (n : ℕ). option_map verify_error_code c.lowest.result ≡ rejection_in (requires_at program p n i t)) (sym c.if-place-eq0.true)
    (c.lowest.ensures
    ∙ ap (λ (first : Option ℕ). lowest_of first (option_map verify_error_code c.instr_rejection-own.result)) c.params_rejection.ensures
    ∙ ap (lowest_of (rejection_in (requires_params p))) c.instr_rejection-own.ensures
    ∙ sym (rejection_in-append (requires_params p) (requires_by_instr program p i t)))
