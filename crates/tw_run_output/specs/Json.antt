-- The JSON line of a finished run.
use Rattle.std.specs.Prelude.{◌≡◌, ◌+◌, ℕ, List, length, codes, Option, Some, None}
use Rattle.serde_json.specs.Data as json
use Rattle.tw_types.specs.declared.event.Event.{Event}
use Rattle.tw_types.specs.declared.pending.Link.{Link}
use Rattle.tw_code.specs.declared.procedure.Procedure.{Procedure}
use Rattle.tw_code.specs.machine.Pending.{circle}
use Rattle.tw_code.specs.machine.State.{State}
use Rattle.tw_bounds.specs.Runs.{instructions_in}
use Rattle.tw_json_output.specs.Run.{end_members, json_line}
use Rattle.tw_pool.specs.declared.answer.Closing.{Closing}
use Rattle.tw_pool.specs.declared.answer.Closing.TheVariants.{Quiet, Stuck, Stopped, Limit}
use Rattle.tw_pool.specs.Ends.{FinalView}
use Rattle.tw_run_output.specs.Ends.{InEachState}

-- returns the word for the end of a run
abbrev pub status_of : Closing → List ℕ
status_of Quiet = codes "quiet"
status_of (Stuck rules) = codes "stuck"
status_of Stopped = codes "stopped"
status_of Limit = codes "limit"

-- returns the number of pending rules of a stuck run
abbrev pub pending_of : Closing → Option ℕ
pending_of Quiet = None
pending_of (Stuck rules) = Some rules
pending_of Stopped = None
pending_of Limit = None

-- returns the circle of rules of a stuck run, if there is one
abbrev pub circle_in : List Procedure → State → Closing → Option (List Link)
circle_in program s Quiet = None
circle_in program s (Stuck rules) = circle program s
circle_in program s Stopped = None
circle_in program s Limit = None

-- returns the local instructions of tasks that were cut off, if the run ended by a stop
abbrev pub cut_at : Closing → ℕ → ℕ
cut_at Quiet cut = 0
cut_at (Stuck rules) cut = 0
cut_at Stopped cut = cut
cut_at Limit cut = 0

-- return the members of the object of a run that has ended in this state, and the object's line. Its instructions are those of the events, and
-- those of tasks that were cut off.
abbrev pub members_of : List Procedure → List Event → ℕ → State → Closing → json.Members
members_of program events cut s closing =
    end_members (status_of closing) (pending_of closing) (circle_in program s closing) (length events) (instructions_in events + cut_at closing cut) s.store.live s.outputs

abbrev pub run_line : List Procedure → List Event → ℕ → State → Closing → List ℕ
run_line program events cut s closing = json_line (json.object (members_of program events cut s closing))

-- holds for the members of this end of a run
abbrev pub AreEndMembers : FinalView → List Event → ℕ → Closing → json.Members → Type 0
AreEndMembers final events cut closing members = InEachState final (λ program s. members ≡ members_of program events cut s closing)

-- holds for the line of this end of a run
abbrev pub IsEndLine : FinalView → List Event → ℕ → Closing → List ℕ → Type 0
IsEndLine final events cut closing line = InEachState final (λ program s. line ≡ run_line program events cut s closing)
