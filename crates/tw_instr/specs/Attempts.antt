-- Results of the code's instructions and events, against those of the machine.
use Rattle.std.specs.Prelude.{◌≡◌, Result, Ok, Err, IsOk}
use Rattle.tw_types.specs.declared.cause.Cause.{Cause}
use Rattle.tw_types.specs.Outcome.{Outcome, Went, NotEnabled, Trap}
use Rattle.tw_instr.specs.declared.failure.Failure.{Failure}
use Rattle.tw_instr.specs.declared.stopped.Barred.{Barred}
use Rattle.tw_instr.specs.declared.stopped.Barred.TheVariants as barred
use Rattle.tw_instr.specs.declared.failure.Failure.TheVariants as failure
use Rattle.tw_instr.specs.declared.stopped.Stopped.{Stopped}
use Rattle.tw_instr.specs.declared.stopped.Stopped.TheVariants as stopped

-- ---- instructions

-- holds if the cause is the machine's; an allocation fails only if the machine's result is a success
abbrev pub Fails : {A : Type 0} → Result A Cause → Failure → Type 0
Fails r (failure.Trap cause) = r ≡ Err cause
Fails r failure.NoMemory = IsOk r

-- like `Fails`, if memory is allocated before all checks are made: a failed allocation then says nothing of the machine's result
abbrev pub MayFail : {A : Type 0} → Result A Cause → Failure → Type 0
MayFail r (failure.Trap cause) = r ≡ Err cause
MayFail r failure.NoMemory = Unit {0}

-- holds if a success is the machine's result
abbrev pub Gives : {A : Type 0} → Result A Cause → Result A Failure → Type 0
Gives r (Ok x) = r ≡ Ok x
Gives r (Err why) = Fails r why

abbrev pub MayGive : {A : Type 0} → Result A Cause → Result A Failure → Type 0
MayGive r (Ok x) = r ≡ Ok x
MayGive r (Err why) = MayFail r why

-- returns a result without failed allocations
abbrev pub failing : {A : Type 0} → Result A Cause → Result A Failure
failing (Ok x) = Ok x
failing (Err cause) = Err (failure.Trap cause)

-- holds if a success leaves the machine's result, and an error leaves all as it was
abbrev pub Leaves : {A : Type 0} → Result A Cause → A → Result (Unit {0}) Failure → A → Type 0
Leaves r old (Ok _) new = r ≡ Ok new
Leaves r old (Err why) new = Fails r why × (new ≡ old)

-- ---- events

-- returns the event's error for an instruction's
abbrev pub stopped_by : Failure → Stopped
stopped_by (failure.Trap cause) = stopped.Trap cause
stopped_by failure.NoMemory = stopped.NoMemory

-- returns the error of an event that doesn't allocate
abbrev pub barred_by : Barred → Stopped
barred_by barred.NotEnabled = stopped.NotEnabled
barred_by (barred.Trap cause) = stopped.Trap cause

abbrev pub unless_barred : {A : Type 0} → Result A Barred → Result A Stopped
unless_barred (Ok x) = Ok x
unless_barred (Err why) = Err (barred_by why)

-- holds if "not enabled" and the cause are the machine's; a failed allocation says nothing of it
abbrev pub IsStopped : {A : Type 0} → Outcome A → Stopped → Type 0
IsStopped o stopped.NotEnabled = o ≡ NotEnabled
IsStopped o (stopped.Trap cause) = o ≡ Trap cause
IsStopped o stopped.NoMemory = Unit {0}

-- holds if a success leaves the machine's result, and an error leaves all as it was
abbrev pub Changes : {A : Type 0} → Outcome A → A → Result (Unit {0}) Stopped → A → Type 0
Changes o old (Ok _) new = o ≡ Went new
Changes o old (Err why) new = IsStopped o why × (new ≡ old)
