use Rattle.std.proofs.Common.{sym, subst}
use Rattle.tw_frame.specs.Jobs.{FrameView, JobView, MayBeAt}
use Rattle.tw_frame.proofs.Lending.{may_go_on}
use Rattle.tw_fuzz.proofs.jobs.run_on.Goals as goal

pub lend-requires-clause-fits_place : goal.lend-requires-clause-fits_place
lend-requires-clause-fits_place c =
    subst (λ (f : FrameView). MayBeAt f.program.program f.procedure f.position) (sym c.in-Ok.ensures.taken)
    (subst (λ (j : JobView). MayBeAt j.program.program j.procedure c.run-done.result.after) c.in-Ok.ensures.fits
    (may_go_on c.run-done.result.before.program.program c.run-done.result.before.procedure c.run-done.result.before.position c.run-done.result.after c.run-done.result.steps c.run-done.result.short c.steps-steps.ensures.done))
