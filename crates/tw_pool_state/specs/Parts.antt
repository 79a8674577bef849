-- The state of the parts of a pool.
use Rattle.std.specs.Prelude.{map as each}
use Rattle.tw_types.specs.Mapped.{mapped}
use Rattle.tw_types.specs.Notices.{Notices}
use Rattle.tw_rights.specs.Bare.{bare_rule, bare_task}
use Rattle.tw_code.specs.machine.State.{State}
use Rattle.tw_frame.specs.Jobs.{bare_frame}
use Rattle.tw_pool_state.specs.declared.parts.Parts.{Parts}

-- returns the state, with the set of queued notices; places of rights, and the numbers of issued jobs, aren't in the machine's state
abbrev pub state_of : Parts → Notices → State
state_of p notices = record {
  store = p.store.store;
  rules = mapped bare_rule p.rules.rules;
  next_rule = p.rules.next;
  tasks = mapped bare_task p.tasks.tasks;
  next_task = p.next_task;
  frames = mapped bare_frame p.running_tasks.tasks;
  notices = notices;
  outputs = each (λ right. right.id) p.outputs;
}
