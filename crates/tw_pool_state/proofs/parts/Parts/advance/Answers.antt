use Rattle.tw_pool_state.proofs.PartNames.{RunningView, Some, ap, arith, bare_frame, frame_after}
use Rattle.tw_pool_state.proofs.Fitting.{seen}
use Rattle.tw_pool_state.proofs.Goings.{is_issued}
use Rattle.tw_pool_state.proofs.Law.{runner_has_slot}
use Rattle.tw_pool_state.proofs.parts.Parts.advance.Goals as goal

pub advance-requires-clause-task_slot : goal.advance-requires-clause-task_slot
advance-requires-clause-task_slot c = let s = c.requires.fits_place in runner_has_slot c.args.done.before.program s.0 c.args.self.now s.1 s.3 c.args.actor s.2 s.5.is_running

pub advance-requires-clause-is_running : goal.advance-requires-clause-is_running
advance-requires-clause-is_running c =
    let s = c.requires.fits_place in
    let few = s.4.spent c.args.actor (bare_frame s.2) (seen bare_frame c.args.self.now.running_tasks.tasks c.args.actor (Some s.2) s.5.is_running) in
    (s.2, s.5.is_running, s.5.own, omega (arith, few))

pub returns-clause-lent : goal.returns-clause-lent
returns-clause-lent c =
    let s = c.requires.fits_place in
    let came = c.advance.ensures s.2 s.5.is_running in
    is_issued _ c.args.self.now.running_tasks.tasks c.args.actor (frame_after s.2 c.args.done) c.args.event_no (ap (λ (r : RunningView). r.tasks) came.0) _ came.1
