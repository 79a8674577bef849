-- Arguments, and the requirements on their data, as the code has them.
use Rattle.std.specs.Prelude.{Bool, Option}
use Rattle.tw_types.specs.declared.param.Param.{Param}
use Rattle.tw_types.specs.Store.{Datum}
use Rattle.tw_types.specs.Task.{Arg as Meaning, ValueArg, RightArg}
use Rattle.tw_code.specs.machine.Arguments.{is_live, is_of_type, is_closed_if_required}
use Rattle.tw_instr.specs.declared.arguments.Arg.{Arg}
use Rattle.tw_instr.specs.declared.arguments.Arg.TheVariants as arg
use Rattle.tw_instr.specs.declared.arguments.Need.{Need}
use Rattle.tw_instr.specs.declared.arguments.Need.TheVariants as need

abbrev pub arg_of : Arg → Meaning
arg_of (arg.Value value) = ValueArg value
arg_of (arg.Right id) = RightArg id

abbrev pub test_of : Need → Param → Option Datum → Bool
test_of need.Live = is_live
test_of need.OfType = is_of_type
test_of need.ClosedIfAsked = is_closed_if_required
