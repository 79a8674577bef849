use Rattle.tw_verify.proofs.VerifierNames.{requires_value, ◌++◌}
use Rattle.tw_types.specs.declared.data_type.Scalar.TheVariants as scalar
use Rattle.tw_verify.proofs.questions.byte_rejection.Goals as goal

pub returns : goal.returns
returns c = c.first_rejection.ensures (requires_value c.args.registers.now c.args.text scalar.Text ++ requires_value c.args.registers.now c.args.place scalar.Int) c.both_rejection-others.ensures
