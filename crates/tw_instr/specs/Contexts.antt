-- A store, notices and a frame as the context of an instruction on data.
use Rattle.std.specs.Prelude.{◌≡◌, Result, Ok, Err}
use Rattle.tw_types.specs.Notices.{Notices}
use Rattle.tw_types.specs.Store.{Store}
use Rattle.tw_code.specs.declared.instr.DataInstr.{DataInstr}
use Rattle.tw_code.specs.machine.Data.{Context, data_instr}
use Rattle.tw_code.specs.machine.State.{Frame}
use Rattle.tw_instr.specs.declared.failure.Failure.{Failure}
use Rattle.tw_instr.specs.Attempts.{Fails}

-- returns all that an instruction on data reads and changes
abbrev pub context : Store → Notices → Frame → Context
context s notices f = record { store = s; notices = notices; rights = f.rights; position = f.position }

-- holds if the store, the notices and the frame are those of the instruction's context afterwards, with the same task in the frame;
-- an error leaves all as it was
abbrev pub Does : DataInstr → Store → Notices → Frame → Result (Unit {0}) Failure → Store → Notices → Frame → Type 0
Does i s n f (Ok _) t m g = (data_instr i (context s n f) ≡ Ok (context t m g)) × (g ≡ record f { position = g.position; rights = g.rights })
Does i s n f (Err why) t m g = Fails (data_instr i (context s n f)) why × (t ≡ s) × (m ≡ n) × (g ≡ f)

-- like `Does`, for an instruction that leaves the notices as they are
abbrev pub DoesQuietly : DataInstr → Store → Frame → Result (Unit {0}) Failure → Store → Frame → Type 0
DoesQuietly i s f result t g = (n : Notices) → Does i s n f result t n g
