use Rattle.tw_pool_state.proofs.PartNames.{FrameView, IsIssuedAfter, IsOutOfMemory, MayDo, None, Some, ap, frame_after, job_of, same_Some, subst, sym, ◌∙◌, ◌≡◌}
use Rattle.tw_pool_state.proofs.FrameBufferLists.{slots_kept}
use Rattle.tw_pool_state.proofs.Runners.{changed, read_there}
use Rattle.tw_pool_state.proofs.running_tasks.RunningTasks.exec_data.Goals as goal
use Rattle.tw_pool_state.proofs.running_tasks.RunningTasks.exec_data.Goals.{in-Ok, in-Err}

pub unreachable-requires : goal.unreachable-requires
unreachable-requires c = let m = c.requires.is_running in let no : Some m.0 ≡ None = read_there c.self.invariant.0 c.self.view_is c.args.actor c.requires.task_slot c.place-number.ensures.is m.1 c.index_mut-place.ensures.value c.in-None.is in cc

pub run_data-requires-clause-own : goal.run_data-requires-clause-own
run_data-requires-clause-own c = let m = c.requires.is_running in m.2 ∙ ap job_of (same_Some m.0 c.in-Some.frame (read_there c.self.invariant.0 c.self.view_is c.args.actor c.requires.task_slot c.place-number.ensures.is m.1 c.index_mut-place.ensures.value c.in-Some.is))

pub run_data-requires-clause-may : goal.run_data-requires-clause-may
run_data-requires-clause-may c = let m = c.requires.is_running in subst (λ (f : FrameView). MayDo c.args.instr.now c.args.store.now (frame_after f c.args.done)) (same_Some m.0 c.in-Some.frame (read_there c.self.invariant.0 c.self.view_is c.args.actor c.requires.task_slot c.place-number.ensures.is m.1 c.index_mut-place.ensures.value c.in-Some.is)) m.3

pub lend-requires-clause-fits_place : goal.lend-requires-clause-fits_place
lend-requires-clause-fits_place c =
    let m = c.requires.is_running in
    let may = subst (λ (f : FrameView). MayDo c.args.instr.now c.args.store.now (frame_after f c.args.done)) (same_Some m.0 c.in-Some.frame (read_there c.self.invariant.0 c.self.view_is c.args.actor c.requires.task_slot c.place-number.ensures.is m.1 c.index_mut-place.ensures.value c.in-Some.is)) m.3 in
    may.fits_place c.run_data.new.store c.run_data.new.frame c.in-Ok.ensures.is_done

pub invariant_of-self : goal.invariant_of-self
invariant_of-self c =
    let m = c.requires.is_running in
    elim c.match-run_data.branch [
      | in-Ok w ↦ rw (w.self-inside-is) (slots_kept c.self.invariant c.self.view_is c.args.actor c.requires.task_slot c.place-number.ensures.is m.1 w.lend.new.self)
      | in-Err w ↦ rw (w.self-inside-is) (slots_kept c.self.invariant c.self.view_is c.args.actor c.requires.task_slot c.place-number.ensures.is m.1 c.run_data.new.frame)
    ]

pub returns : goal.returns
returns c = λ f at.
    let same = same_Some f c.in-Some.frame (read_there c.self.invariant.0 c.self.view_is c.args.actor c.requires.task_slot c.place-number.ensures.is at c.index_mut-place.ensures.value c.in-Some.is) in
    elim c.match-run_data.branch [
      | in-Ok w ↦ rw (w.self-inside-is, w.result-is) (
        w.lend.new.self,
        changed c.self.invariant.0 c.self.view_is c.args.actor c.requires.task_slot c.place-number.ensures.is w.lend.new.self,
        subst (λ (x : FrameView). IsIssuedAfter c.args.instr.now c.args.store.now c.run_data.new.store x w.lend.new.self c.args.event_no c.args.done w.lend.result) (sym same)
            (record { at = c.run_data.new.frame; is_done = w.in-Ok.ensures.is_done; is_issued = w.lend.ensures.kept; is_job = w.lend.ensures.lent }),
      )
      | in-Err w ↦ rw (w.self-inside-is, w.result-is) (
        c.run_data.new.frame,
        changed c.self.invariant.0 c.self.view_is c.args.actor c.requires.task_slot c.place-number.ensures.is c.run_data.new.frame,
        subst (λ (x : FrameView). IsOutOfMemory c.args.instr.now c.args.store.now c.run_data.new.store x c.run_data.new.frame c.args.done w.in-Err.done) (sym same) w.in-Err.ensures,
      )
    ]
