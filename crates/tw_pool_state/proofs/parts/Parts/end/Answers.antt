use Rattle.tw_pool_state.proofs.PartNames.{FrameView, RunningView, actor_cmp-IsAntisymmetric, actor_cmp_total, ap, frame_after, is_some, refl, same_Some, slice_get, sym, with_done, ◌∙◌, ◌≡◌}
use Rattle.tw_types.proofs.Maps.{remove_insert}
use Rattle.tw_pool_state.proofs.Ends.{ended}
use Rattle.tw_pool_state.proofs.Law.{runner_has_slot}
use Rattle.tw_pool_state.proofs.Runners.{get_own}
use Rattle.tw_pool_state.proofs.parts.Parts.end.Goals as goal

pub end-requires : goal.end-requires
end-requires c =
    let s = c.requires.fits_place in
    let done = c.args.done in
    record {
      task_slot = runner_has_slot done.before.program s.layout (with_done c.args.self.now c.args.actor s.f done) s.notices s.parts c.args.actor (frame_after s.f done) (get_own c.args.self.now.running_tasks.tasks c.args.actor (frame_after s.f done));
      is_running = ap is_some s.owed.is_running;
    }

pub returns : goal.returns
returns c = λ layout f owed notices h.
    let s = c.requires.fits_place in
    let done = c.args.done in
    let old = c.args.self.now in
    let same : s.f ≡ f = same_Some s.f f (sym s.owed.is_running ∙ owed.is_running) in
    ended done.before.program layout (with_done old c.args.actor f done) notices h c.args.actor (frame_after f done) s.q (get_own old.running_tasks.tasks c.args.actor (frame_after f done))
    (ap (λ (g : FrameView). slice_get done.before.program.program g.procedure) (sym same) ∙ s.here) s.following_is _
    (ap (λ (r : RunningView). r.tasks) c.end.ensures ∙ sym (remove_insert actor_cmp_total actor_cmp-IsAntisymmetric old.running_tasks.tasks c.args.actor (frame_after f done)))
    (ap (λ (r : RunningView). r.layout) c.end.ensures) refl refl refl refl refl
