use Rattle.tw_handles.proofs.Names.{ActorCounts, IsRunIfWithin, Looked, inl, refl, subst}
use Rattle.tw_handles.proofs.running.run_in.Goals as goal

pub returns-in-Ok : goal.returns-in-Ok
returns-in-Ok g c =
    let Is : ActorCounts → Type 0 = λ counts. IsRunIfWithin (Looked g.S.StopSignal.says c.args.stop.now c.run_if_within.new.stop) c.args.verified.now c.args.inputs.now counts c.args.order c.args.report.now.held c.run_if_within.new.report.held c.run_if_within.result in
    inl (c.in-Ok.ensures.accepted.0 refl, subst Is c.in-Ok.ensures.value c.run_if_within.ensures)
