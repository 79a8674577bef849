use Rattle.tw_pool_state.proofs.PartNames.{Call, CallTakes, FrameView, Instr, IsAtInstr, IsIssued, IsOwed, JobView, Makes, MakesAfter, Parts, RunningView, TakesMemory, TasksByActor, Untouched, ap, frame_after, insert, job_of, refl, same_Some, subst, sym, with_done, with_running, ◌∙◌, ◌≡◌}
use Rattle.tw_pool_state.proofs.Answering.{when_back, when_done, when_issued, when_refused}
use Rattle.tw_pool_state.proofs.Calling.{called, may_do}
use Rattle.tw_pool_state.proofs.Goings.{is_issued, issued_goes}
use Rattle.tw_pool_state.proofs.Law.{runner_has_slot}
use Rattle.tw_pool_state.proofs.Runners.{again, get_own, same_slot}
use Rattle.tw_pool_state.proofs.parts.Parts.call.Goals as goal

pub exec_data-requires-clause-task_slot : goal.exec_data-requires-clause-task_slot
exec_data-requires-clause-task_slot c =
    let s = subst (λ (i : Instr). IsAtInstr c.args.self.now c.args.actor c.args.done i) (c.in-Data.is) c.requires.fits_place in
    let done = c.args.done in
    runner_has_slot done.before.program s.layout (with_done c.args.self.now c.args.actor s.f done) s.notices s.parts c.args.actor (frame_after s.f done) (get_own c.args.self.now.running_tasks.tasks c.args.actor (frame_after s.f done))

pub exec_data-requires-clause-is_running : goal.exec_data-requires-clause-is_running
exec_data-requires-clause-is_running c =
    let s = subst (λ (i : Instr). IsAtInstr c.args.self.now c.args.actor c.args.done i) (c.in-Data.is) c.requires.fits_place in
    let done = c.args.done in (
      s.f,
      s.owed.is_running,
      s.owed.own,
      may_do done.before.program s.layout (with_done c.args.self.now c.args.actor s.f done) s.notices s.parts c.args.actor (frame_after s.f done) s.q c.in-Data.instr (get_own c.args.self.now.running_tasks.tasks c.args.actor (frame_after s.f done)) s.here s.following_is s.small,
    )

pub returns-in-Data-clause-called : goal.returns-in-Data-clause-called
returns-in-Data-clause-called c =
    let s = subst (λ (i : Instr). IsAtInstr c.args.self.now c.args.actor c.args.done i) (c.in-Data.is) c.requires.fits_place in
    let done = c.args.done in
    let old = c.args.self.now in
    let e = c.exec_data.ensures s.f s.owed.is_running in
    let new : Parts = record old { store = c.exec_data.new.store; running_tasks = c.exec_data.new.self } in
    when_done c.in-Data.instr old.store c.exec_data.new.store s.f e.0 c.args.event_no done (MakesAfter (Call c.args.actor) old c.args.actor done new) c.exec_data.result e.2 (λ job l. λ layout f owed.
    let same : s.f ≡ f = same_Some s.f f (sym s.owed.is_running ∙ owed.is_running) in
    subst (λ (x : FrameView). Makes done.before.program layout (Call c.args.actor) (with_done old c.args.actor x done) new) same (λ notices h.
    issued_goes new old.running_tasks.tasks c.args.actor l.at c.args.event_no (ap (λ (r : RunningView). r.tasks) e.1 ∙ ap (insert old.running_tasks.tasks c.args.actor) l.is_issued) done.before.program layout (Call c.args.actor) refl (with_done old c.args.actor s.f done) notices
    (called done.before.program layout (with_done old c.args.actor s.f done) notices h c.args.actor (frame_after s.f done) s.q c.in-Data.instr (get_own old.running_tasks.tasks c.args.actor (frame_after s.f done)) s.here s.following_is
    (record new { running_tasks = record new.running_tasks { tasks = insert old.running_tasks.tasks c.args.actor l.at } }) l.at l.is_done (sym (again old.running_tasks.tasks c.args.actor (frame_after s.f done) l.at)) (ap (λ (r : RunningView). r.layout) e.1) refl refl refl refl)))

pub returns-in-Data-clause-lent : goal.returns-in-Data-clause-lent
returns-in-Data-clause-lent c =
    let s = subst (λ (i : Instr). IsAtInstr c.args.self.now c.args.actor c.args.done i) (c.in-Data.is) c.requires.fits_place in
    let e = c.exec_data.ensures s.f s.owed.is_running in
    when_issued c.in-Data.instr c.args.self.now.store c.exec_data.new.store s.f e.0 c.args.event_no c.args.done (λ (job : JobView). IsIssued _ c.args.actor c.args.event_no job) c.exec_data.result e.2 (λ job l.
    is_issued _ c.args.self.now.running_tasks.tasks c.args.actor l.at c.args.event_no (ap (λ (r : RunningView). r.tasks) e.1 ∙ ap (insert c.args.self.now.running_tasks.tasks c.args.actor) l.is_issued) job (l.is_job ∙ ap job_of l.is_issued))

pub returns-in-Data-clause-refused : goal.returns-in-Data-clause-refused
returns-in-Data-clause-refused c =
    let s = subst (λ (i : Instr). IsAtInstr c.args.self.now c.args.actor c.args.done i) (c.in-Data.is) c.requires.fits_place in
    let e = c.exec_data.ensures s.f s.owed.is_running in
    when_refused c.in-Data.instr c.args.self.now.store c.exec_data.new.store s.f e.0 c.args.event_no c.args.done (Untouched c.args.self.now _) c.exec_data.result e.2 (λ back r. record {
      store = r.store;
      rules = refl;
      next_rule = refl;
      tasks = refl;
      next_task = refl;
      running_tasks = e.1 ∙ ap (λ (g : FrameView). with_running c.args.self.now.running_tasks c.args.actor g) r.frame
          ∙ ap (λ (m : TasksByActor). record c.args.self.now.running_tasks { tasks = m }) (same_slot c.args.self.now.running_tasks.tasks c.args.actor s.f s.owed.is_running);
      outputs = refl;
    })

pub returns-in-Data-clause-back : goal.returns-in-Data-clause-back
returns-in-Data-clause-back c =
    let s = subst (λ (i : Instr). IsAtInstr c.args.self.now c.args.actor c.args.done i) (c.in-Data.is) c.requires.fits_place in
    let e = c.exec_data.ensures s.f s.owed.is_running in
    when_back c.in-Data.instr c.args.self.now.store c.exec_data.new.store s.f e.0 c.args.event_no c.args.done c.exec_data.result e.2

pub returns-in-Data-clause-memory : goal.returns-in-Data-clause-memory
returns-in-Data-clause-memory c =
    let s = subst (λ (i : Instr). IsAtInstr c.args.self.now c.args.actor c.args.done i) (c.in-Data.is) c.requires.fits_place in
    let e = c.exec_data.ensures s.f s.owed.is_running in
    when_refused c.in-Data.instr c.args.self.now.store c.exec_data.new.store s.f e.0 c.args.event_no c.args.done ((f : FrameView) → IsOwed c.args.self.now c.args.actor f c.args.done → CallTakes c.args.instr.now c.args.self.now.store (frame_after f c.args.done)) c.exec_data.result e.2 (λ back r. λ f owed.
    subst (λ (i : Instr). CallTakes i c.args.self.now.store (frame_after f c.args.done)) (sym c.in-Data.is)
    (subst (λ (x : FrameView). TakesMemory c.in-Data.instr c.args.self.now.store (frame_after x c.args.done)) (same_Some s.f f (sym s.owed.is_running ∙ owed.is_running)) r.memory))
