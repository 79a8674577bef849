use Rattle.tw_frame.proofs.Names.{Context, FrameView, JobView, List, Loop, ap, position_of, sym, ◌∙◌}
use Rattle.tw_frame.specs.JobBuffers.{draft_in}
use Rattle.tw_frame.proofs.Lending.{sent}
use Rattle.tw_frame.proofs.frame.Frame.lend.Goals as goal

pub invariant_of-result : goal.invariant_of-result
invariant_of-result c =
    let old = c.in-Some.job_buffer.lent in
    let seen = ap draft_in (sym c.in-Some.is ∙ c.as_mut.ensures.value) ∙ c.draft.view_is in
    sent c.args.self.now c.args.draft old c.reissue.new.self (position_of c.self.inside.own.value) (ap (λ (f : FrameView). f.position) c.self.view_is) seen
    c.requires.program c.requires.procedure c.requires.values c.requires.fits_place (ap (λ (j : JobView). j.program) c.reissue.ensures) (ap (λ (j : JobView). j.procedure) c.reissue.ensures)
    (ap (λ (j : JobView). j.position) c.reissue.ensures
    ∙ ap (λ (loops : List Loop). record { place = c.deref-own.result.now.place; values = old.position.values; loops = loops }) c.copy-loops.ensures
    ∙ ap (λ (x : Context). record { place = x.place; values = old.position.values; loops = x.loops }) c.deref-own.ensures)
