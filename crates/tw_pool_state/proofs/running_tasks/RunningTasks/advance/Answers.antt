use Rattle.tw_pool_state.proofs.PartNames.{FrameView, JobView, MayBeAt, None, Some, ap, frame_after, issued_as, job_of, may_go_on, same_Some, subst, sym, with_running, ◌<◌, ◌^◌, ◌∙◌, ◌≡◌}
use Rattle.tw_pool_state.proofs.FrameBufferLists.{slots_kept}
use Rattle.tw_pool_state.proofs.Runners.{changed, read_there}
use Rattle.tw_pool_state.proofs.running_tasks.RunningTasks.advance.Goals as goal

pub unreachable-requires : goal.unreachable-requires
unreachable-requires c = let m = c.requires.is_running in let no : Some m.0 ≡ None = read_there c.self.invariant.0 c.self.view_is c.args.actor c.requires.task_slot c.place-number.ensures.is m.1 c.index_mut-place.ensures.value c.in-None.is in cc

pub complete_job-draft-requires-clause-own : goal.complete_job-draft-requires-clause-own
complete_job-draft-requires-clause-own c = let m = c.requires.is_running in m.2 ∙ ap job_of (same_Some m.0 c.in-Some.frame (read_there c.self.invariant.0 c.self.view_is c.args.actor c.requires.task_slot c.place-number.ensures.is m.1 c.index_mut-place.ensures.value c.in-Some.is))

pub complete_job-draft-requires-clause-spent : goal.complete_job-draft-requires-clause-spent
complete_job-draft-requires-clause-spent c = let m = c.requires.is_running in subst (λ (f : FrameView). f.spent < 2 ^ 63) (same_Some m.0 c.in-Some.frame (read_there c.self.invariant.0 c.self.view_is c.args.actor c.requires.task_slot c.place-number.ensures.is m.1 c.index_mut-place.ensures.value c.in-Some.is)) m.3

pub lend-requires-clause-fits_place : goal.lend-requires-clause-fits_place
lend-requires-clause-fits_place c =
    let m = c.requires.is_running in
    let done = c.args.done in
    let same = same_Some m.0 c.in-Some.frame (read_there c.self.invariant.0 c.self.view_is c.args.actor c.requires.task_slot c.place-number.ensures.is m.1 c.index_mut-place.ensures.value c.in-Some.is) in
    subst (λ (f : FrameView). MayBeAt f.program.program f.procedure f.position) (sym c.complete_job-draft.ensures.taken)
    (subst (λ (j : JobView). MayBeAt j.program.program j.procedure done.after) (m.2 ∙ ap job_of same)
    (may_go_on done.before.program.program done.before.procedure done.before.position done.after done.steps done.short c.steps-steps.ensures.done))

pub invariant_of-self : goal.invariant_of-self
invariant_of-self c = let m = c.requires.is_running in slots_kept c.self.invariant c.self.view_is c.args.actor c.requires.task_slot c.place-number.ensures.is m.1 c.lend.new.self

pub returns : goal.returns
returns c = λ f at.
    let same = same_Some f c.in-Some.frame (read_there c.self.invariant.0 c.self.view_is c.args.actor c.requires.task_slot c.place-number.ensures.is at c.index_mut-place.ensures.value c.in-Some.is) in
    let lent = c.lend.ensures.kept ∙ ap (issued_as c.args.event_no) (c.complete_job-draft.ensures.taken ∙ ap (λ (g : FrameView). frame_after g c.args.done) (sym same)) in
    (changed c.self.invariant.0 c.self.view_is c.args.actor c.requires.task_slot c.place-number.ensures.is c.lend.new.self ∙ ap (with_running c.args.self.now c.args.actor) lent, c.lend.ensures.lent ∙ ap job_of lent)
