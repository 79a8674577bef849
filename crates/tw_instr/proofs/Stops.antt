-- An error of one step stops all that follow it.
use Rattle.tw_instr.proofs.Names.{Cause, Failure, IsStopped, MayFail, Outcome, Result, Stopped, ap, outcome_of, stopped_by, subst, sym, ◌>>=◌, ◌≡◌}
use Rattle.tw_instr.specs.declared.failure.Failure.TheVariants as failure
use Rattle.tw_instr.specs.declared.stopped.Stopped.TheVariants as stopped

pub stopped_then : {A B : Type 0} (o : Outcome A) (next : A → Outcome B) (why : Stopped) → IsStopped o why → IsStopped (o >>= next) why
stopped_then o next stopped.NotEnabled h = ap (λ p. p >>= next) h
stopped_then o next (stopped.Trap cause) h = ap (λ p. p >>= next) h
stopped_then o next stopped.NoMemory h = tt

pub stopped_is : {A : Type 0} (o p : Outcome A) (why : Stopped) → o ≡ p → IsStopped p why → IsStopped o why
stopped_is o p why e h = subst (λ q. IsStopped q why) (sym e) h

-- an instruction that fails, in an event
pub fails_then : {A B : Type 0} (r : Result A Cause) (next : A → Outcome B) (why : Failure) → MayFail r why → IsStopped (outcome_of r >>= next) (stopped_by why)
fails_then r next (failure.Trap cause) h = ap (λ q. outcome_of q >>= next) h
fails_then r next failure.NoMemory h = tt
