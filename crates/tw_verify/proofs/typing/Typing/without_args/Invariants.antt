use Rattle.tw_verify.proofs.VerifierNames.{AllByRecursion, IsRegister, iter_rest, without_args, zip_first, zip_second, ◌≡◌}
use Rattle.tw_verify.proofs.typing.Typing.without_args.Given as goal

-- the arguments that are still to leave the registers
abbrev pub invariant-loop-param : goal.invariant-loop-param
invariant-loop-param l = record {
  rest : without_args l.params l.args l.initial.left ≡ without_args (iter_rest (zip_first l.param-iterator)) (iter_rest (zip_second l.param-iterator)) l.left;
  operands : AllByRecursion IsRegister (iter_rest (zip_second l.param-iterator));
}
