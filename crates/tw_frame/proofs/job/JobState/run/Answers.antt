use Rattle.tw_frame.proofs.Names.{JobView, MayBeAt, subst, sym}
use Rattle.tw_frame.proofs.job.JobState.run.Goals as goal

pub run_in-requires : goal.run_in-requires
run_in-requires g c = rw c.deref.ensures (record { own = c.self.invariant; fits_place = subst (λ (j : JobView). MayBeAt j.program.program j.procedure j.position) (sym c.self.view_is) c.requires })
