use Rattle.std.proofs.Common.{◌≡◌, ◌<◌, ◌+◌, ◌∙◌, IsSome, None, Some, ap, arith, subst, sym}
use Rattle.tw_pool_state.proofs.PartNames.{FrameView, MayBeAt, at_next_place, bundled, frame_after, frame_at_next, issued_as, job_of, same_Some, with_running, ◌^◌}
use Rattle.tw_pool_state.proofs.FrameBufferLists.{slots_kept}
use Rattle.tw_pool_state.proofs.Runners.{changed, read_there}
use Rattle.tw_pool_state.proofs.running_tasks.RunningTasks.take_args.Goals as goal

pub unreachable-requires : goal.unreachable-requires
unreachable-requires c = let m = c.requires.is_running in let no : Some m.0 ≡ None = read_there c.self.invariant.0 c.self.view_is c.args.actor c.requires.task_slot c.place-number.ensures.is m.1 c.index_mut-place.ensures.value c.in-None.is in cc

pub complete_job-draft-requires-clause-own : goal.complete_job-draft-requires-clause-own
complete_job-draft-requires-clause-own c = let m = c.requires.is_running in m.2 ∙ ap job_of (same_Some m.0 c.in-Some.frame (read_there c.self.invariant.0 c.self.view_is c.args.actor c.requires.task_slot c.place-number.ensures.is m.1 c.index_mut-place.ensures.value c.in-Some.is))

pub complete_job-draft-requires-clause-spent : goal.complete_job-draft-requires-clause-spent
complete_job-draft-requires-clause-spent c =
    let m = c.requires.is_running in
    let low : c.in-Some.frame.spent + c.args.done.steps < 2 ^ 63 = subst (λ (f : FrameView). f.spent + c.args.done.steps < 2 ^ 63) (same_Some m.0 c.in-Some.frame (read_there c.self.invariant.0 c.self.view_is c.args.actor c.requires.task_slot c.place-number.ensures.is m.1 c.index_mut-place.ensures.value c.in-Some.is)) m.3 in
    omega (arith, low)

pub take_args-bundle-requires-clause-fit : goal.take_args-bundle-requires-clause-fit
take_args-bundle-requires-clause-fit c =
    let m = c.requires.is_running in
    subst (λ (f : FrameView). IsSome (bundled f.held c.as_slice-params.result.now c.args.args.now c.args.asked.vals.items)) (sym c.complete_job-draft.ensures.taken)
    (subst (λ ps. IsSome (bundled c.in-Some.frame.held ps c.args.args.now c.args.asked.vals.items)) (sym c.as_slice-params.ensures)
    (subst (λ (f : FrameView). IsSome (bundled f.held c.args.asked.callee.now.params c.args.args.now c.args.asked.vals.items)) (same_Some m.0 c.in-Some.frame (read_there c.self.invariant.0 c.self.view_is c.args.actor c.requires.task_slot c.place-number.ensures.is m.1 c.index_mut-place.ensures.value c.in-Some.is)) m.5))

pub take_args-bundle-requires-clause-place : goal.take_args-bundle-requires-clause-place
take_args-bundle-requires-clause-place c =
    let m = c.requires.is_running in
    subst (λ (f : FrameView). f.position.place < 2 ^ 63) (sym c.complete_job-draft.ensures.taken) m.4

pub take_args-bundle-requires-clause-spent : goal.take_args-bundle-requires-clause-spent
take_args-bundle-requires-clause-spent c =
    let m = c.requires.is_running in
    subst (λ (f : FrameView). f.spent < 2 ^ 63) (sym c.complete_job-draft.ensures.taken)
    (subst (λ (f : FrameView). f.spent + c.args.done.steps < 2 ^ 63) (same_Some m.0 c.in-Some.frame (read_there c.self.invariant.0 c.self.view_is c.args.actor c.requires.task_slot c.place-number.ensures.is m.1 c.index_mut-place.ensures.value c.in-Some.is)) m.3)

pub lend-requires-clause-fits_place : goal.lend-requires-clause-fits_place
lend-requires-clause-fits_place c =
    let m = c.requires.is_running in
    let same : m.0 ≡ c.in-Some.frame = same_Some m.0 c.in-Some.frame (read_there c.self.invariant.0 c.self.view_is c.args.actor c.requires.task_slot c.place-number.ensures.is m.1 c.index_mut-place.ensures.value c.in-Some.is) in
    let over = c.take_args-bundle.new.self in
    subst (λ (f : FrameView). MayBeAt f.program.program f.procedure f.position)
    (sym (c.take_args-bundle.ensures.rest ∙ ap (λ (f : FrameView). record f { held = over.held; position = at_next_place f.position; spent = f.spent + 1 }) c.complete_job-draft.ensures.taken))
    (subst (λ (f : FrameView). MayBeAt f.program.program f.procedure (at_next_place c.args.done.after)) same m.6)

pub invariant_of-self : goal.invariant_of-self
invariant_of-self c = let m = c.requires.is_running in slots_kept c.self.invariant c.self.view_is c.args.actor c.requires.task_slot c.place-number.ensures.is m.1 c.lend.new.self

pub returns : goal.returns
returns c = λ f at.
    let same : f ≡ c.in-Some.frame = same_Some f c.in-Some.frame (read_there c.self.invariant.0 c.self.view_is c.args.actor c.requires.task_slot c.place-number.ensures.is at c.index_mut-place.ensures.value c.in-Some.is) in
    let file = c.take_args-bundle.new.self.held in
    let moved : c.take_args-bundle.new.self ≡ frame_at_next (frame_after f c.args.done) file =
    c.take_args-bundle.ensures.rest ∙ ap (λ (g : FrameView). frame_at_next g file) (c.complete_job-draft.ensures.taken ∙ ap (λ (g : FrameView). frame_after g c.args.done) (sym same)) in
    let lent : c.lend.new.self ≡ issued_as c.args.event_no (frame_at_next (frame_after f c.args.done) file) = c.lend.ensures.kept ∙ ap (issued_as c.args.event_no) moved in
    let handed = ap (λ ps. bundled f.held ps c.args.args.now c.args.asked.vals.items) (sym c.as_slice-params.ensures)
    ∙ ap (λ (g : FrameView). bundled g.held c.as_slice-params.result.now c.args.args.now c.args.asked.vals.items) same ∙ ap (λ (g : FrameView). bundled g.held c.as_slice-params.result.now c.args.args.now c.args.asked.vals.items) (sym c.complete_job-draft.ensures.taken) ∙ c.take_args-bundle.ensures.handed in
    (file, handed, changed c.self.invariant.0 c.self.view_is c.args.actor c.requires.task_slot c.place-number.ensures.is c.lend.new.self ∙ ap (with_running c.args.self.now c.args.actor) lent, c.lend.ensures.lent ∙ ap job_of lent)
