-- The trace of each run is read back.
use Rattle.std.proofs.Common.{arith, List}
use Rattle.tw_code.specs.declared.procedure.Procedure.{Procedure}
use Rattle.tw_code.specs.format.Program.{IsProgram}
use Rattle.tw_code.specs.machine.Holders.{Typings}
use Rattle.tw_code.specs.machine.Opening.{opening}
use Rattle.tw_code.proofs.Growth.{opening_is_small}
use Rattle.tw_soundness.specs.NoTrap.{AreRight}
use Rattle.tw_soundness.proofs.Safe.{opened_held}
use Rattle.tw_round_trip.specs.Traces.{TracesAreReadBack}
use Rattle.tw_round_trip.proofs.Lines.{trace_read}
use Rattle.tw_round_trip.proofs.Numbers.{events_small, opened_few}

pub all_read_back : (program : List Procedure) (typings : Typings) → IsProgram program → AreRight program typings → TracesAreReadBack program
all_read_back program typings is are inputs layout events s rest given laid short e =
    trace_read events rest
    (events_small program typings is are layout laid events 131072 (opening program inputs) s (opened_held program typings is are inputs given) (opened_few program inputs)
    (opening_is_small program inputs is given).numbers (omega (arith, short)) e)
