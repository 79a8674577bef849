use Rattle.tw_verify.proofs.VerifierNames.{AllByRecursion, IsRegister, iter_rest, lowest_of, option_map, rejection_in, requires_args, verify_error_code, zip_first, zip_second, ◌≡◌}
use Rattle.tw_verify.proofs.arguments.arguments_rejection.Given as goal

-- the error so far, and the remaining checks
abbrev pub invariant-loop-param : goal.invariant-loop-param
invariant-loop-param l = record {
  rest : rejection_in (requires_args l.waits l.registers l.params l.args l.typing) ≡ lowest_of (option_map verify_error_code l.rejection) (rejection_in (requires_args l.waits l.registers (iter_rest (zip_first l.param-iterator)) (iter_rest (zip_second l.param-iterator)) l.left));
  operands : AllByRecursion IsRegister (iter_rest (zip_second l.param-iterator));
}
