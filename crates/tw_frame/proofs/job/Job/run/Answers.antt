use Rattle.tw_stop.proofs.Looking.{never_stops}
use Rattle.tw_frame.proofs.job.Job.run.Goals as goal

pub unreachable-requires : goal.unreachable-requires
unreachable-requires c = let cut = c.in-Err.ensures.cut in let looks = c.in-Err.ensures.seen cut.p cut.here in never_stops _ _ looks.count looks.looked
