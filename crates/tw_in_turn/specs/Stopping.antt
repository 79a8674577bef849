-- A run in one thread that looks at a signal before each step that may make an event and while a task runs, and stops at the first look that says yes.
use Rattle.std.specs.Prelude.{◌≡◌, ◌≤◌, ◌+◌, ◌/◌, ℕ, zero, suc, Bool, true, false, List, Option, Some, None, sum_by, unwrap_or}
use Rattle.tw_stop.specs.Looks.{looks}
use Rattle.tw_types.specs.declared.event.Event.{Event}
use Rattle.tw_types.specs.declared.event.Event.TheVariants.{Take, Local, Call, End, Ask, Deliver, Release}
use Rattle.tw_pool.specs.declared.answer.Closing.{Closing}
use Rattle.tw_pool.specs.declared.answer.Closing.TheVariants as closings
use Rattle.tw_pool.specs.declared.answer.Turn.{Turn}
use Rattle.tw_bounds.specs.Runs.{instructions_in}
use Rattle.tw_code.specs.machine.State.{State}
use Rattle.tw_pool.specs.PoolView.{HasState, PoolView, with_events}
use Rattle.tw_in_turn.specs.InTurn.{IsReachedWith, HasEnded, IsAfter, IsLeftIn, IsOver, IsOutOfMemory}
use Rattle.tw_in_turn.specs.declared.rounds.End.{End as Stop}
use Rattle.tw_in_turn.specs.declared.rounds.End.TheVariants.{Over, NoMemory, Stopped}
use Rattle.tw_in_turn.specs.declared.run.EndedRun.{EndedRun}

-- returns whether the run was stopped
abbrev pub is_stop : Stop → Bool
is_stop Over = false
is_stop NoMemory = false
is_stop (Stopped cut) = true

-- return how many local instructions a task that was cut off had executed, and how many instructions a run executed, with those
abbrev pub cut_of : Stop → ℕ
cut_of Over = 0
cut_of NoMemory = 0
cut_of (Stopped cut) = cut

abbrev pub executed_in : EndedRun → ℕ
executed_in left = instructions_in left.history.events + cut_of left.end

-- return why a run is over, from its end and its results: none if memory ran out. One that was stopped may have had its end before.
abbrev pub closing_at_end : Stop → Option Closing → Option Closing
closing_at_end Over closing = closing
closing_at_end NoMemory closing = None
closing_at_end (Stopped cut) closing = Some (unwrap_or closing closings.Stopped)

abbrev pub left_closing : EndedRun → Option Closing
left_closing left = closing_at_end left.end left.outcome.closing

-- ---- looks at the signal

-- returns how many looks there are at least for an event: one before its step, and for local steps one for each 65,536 while the task runs
abbrev pub looks_in : Event → ℕ
looks_in (Take actor) = 1
looks_in (Local actor steps) = steps / 65536
looks_in (Call actor) = 1
looks_in (End actor) = 1
looks_in (Ask engine rule parameter) = 1
looks_in (Deliver server datum rule parameter) = 1
looks_in (Release engine rule) = 1

abbrev pub looks_within : List Event → ℕ
looks_within events = sum_by looks_in events

-- ---- how it ends

-- after the pool's events the machine makes others, which execute so many instructions
pub record Executes (p : PoolView) (cut : ℕ) : Type 0 where
  pub events : List Event
  pub state : State
  pub has_state : HasState (with_events p events) state
  pub instructions : instructions_in events ≡ cut

-- holds for the instructions of a task that was cut off, if there are any
abbrev pub MayExecute : PoolView → ℕ → Type 0
MayExecute p zero = Unit {0}
MayExecute p (suc cut) = Executes p (suc cut)

-- the step after so many others
abbrev pub IsReachedAfter : Option ℕ → PoolView → ℕ → (Turn → Type 0) → PoolView → Type 0
IsReachedAfter seed first turns Answers p = (c : IsReachedWith seed first Answers p) × (c.turns ≡ turns)

-- holds for the reason why no step follows the first so many, which lead to this pool
abbrev pub EndsAfter : Option ℕ → PoolView → ℕ → Stop → PoolView → Type 0
EndsAfter seed first turns Over p = IsReachedAfter seed first turns IsOver p
EndsAfter seed first turns NoMemory p = IsReachedAfter seed first turns IsOutOfMemory p
EndsAfter seed first turns (Stopped cut) p = IsAfter seed first turns p × MayExecute p cut

-- holds for a finished run, from its first pool on: it ended at the step after so many, or was stopped after them
abbrev pub IsLeftAfter : Option ℕ → PoolView → ℕ → EndedRun → Type 0
IsLeftAfter seed first turns left =
    (p : PoolView) × EndsAfter seed first turns left.end p × IsLeftIn first p left.outcome left.history × (left.end ≡ Over → HasEnded left.outcome.closing)

-- Holds for a finished run whose looks had these answers: at least one for each event that isn't local, and those while tasks ran. All say no
-- but the last one, which says whether the run was stopped. If a task was cut off, the step that issued its job is the last one.
abbrev pub IsLeftBy : Option ℕ → PoolView → List Bool → EndedRun → Type 0
IsLeftBy seed first answers left =
    (turns : ℕ) × (count : ℕ) × (looks_within left.history.events ≤ count + 1) × (answers ≡ looks count (is_stop left.end)) × IsLeftAfter seed first turns left

-- holds for a finished run without its looks: it was stopped only if that may be
abbrev pub IsLeftIf : Bool → Option ℕ → PoolView → EndedRun → Type 0
IsLeftIf may_stop seed first left = (turns : ℕ) × IsLeftAfter seed first turns left × (is_stop left.end ≡ true → may_stop ≡ true)
