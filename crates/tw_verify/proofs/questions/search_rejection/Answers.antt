use Rattle.tw_verify.proofs.VerifierNames.{requires_value, ◌++◌}
use Rattle.tw_types.specs.declared.data_type.Scalar.TheVariants as scalar
use Rattle.tw_verify.proofs.questions.search_rejection.Goals as goal

pub returns : goal.returns
returns c =
    let registers = c.args.registers.now in
    let places = requires_value registers c.args.pattern scalar.Text ++ requires_value registers c.args.start scalar.Int in
    c.first_rejection.ensures (requires_value registers c.args.text scalar.Text ++ places) (c.first_rejection-others.ensures places c.both_rejection-places.ensures)
