use Rattle.tw_types.specs.declared.data_type.Scalar.TheVariants as scalar
use Rattle.tw_code.specs.accepting.Typing.{requires_values}
use Rattle.tw_verify.proofs.instructions.scaling_rejection.Goals as goal

pub returns : goal.returns
returns c = c.first_rejection.ensures (requires_values c.args.registers.now c.args.left c.args.right c.args.divisor scalar.Int) c.values_rejection-others.ensures
