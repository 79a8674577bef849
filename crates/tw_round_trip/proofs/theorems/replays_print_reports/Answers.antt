use Rattle.std.proofs.Common.{subst}
use Rattle.tw_code.specs.format.Program.{IsProgram}
use Rattle.tw_verify.specs.Typed.{typings_of}
use Rattle.tw_round_trip.proofs.Replaying.{replays_print}
use Rattle.tw_round_trip.proofs.theorems.replays_print_reports.Goals as goal

pub returns : goal.returns
returns c =
    let program = c.args.verified.now.program in
    replays_print program (typings_of c.args.verified.now) (subst IsProgram c.program.ensures.is c.procedures-procedures.ensures.within) c.no_trap.ensures.right
