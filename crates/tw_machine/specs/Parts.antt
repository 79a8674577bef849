-- The code's maps, as the machine's maps.
use Rattle.std.specs.Prelude.{ℕ, List}
use Rattle.std.specs.Ordering.{nat_cmp}
use Rattle.std.specs.FinMap.{from_entries}
use Rattle.tw_types.specs.declared.actor.Actor.{Actor}
use Rattle.tw_types.specs.Actor.{actor_cmp}
use Rattle.tw_types.specs.Rule.{Rule, Rules}
use Rattle.tw_types.specs.Task.{Task, Tasks}
use Rattle.tw_code.specs.machine.State.{Frame, Frames}

-- returns the running tasks
abbrev pub frames_of : List (Actor × Frame) → Frames
frames_of es = from_entries {R = actor_cmp} es

-- return the waiting tasks, and the pending rules
abbrev pub tasks_of : List (ℕ × Task) → Tasks
tasks_of es = from_entries {R = nat_cmp} es

abbrev pub rules_of : List (ℕ × Rule) → Rules
rules_of es = from_entries {R = nat_cmp} es
