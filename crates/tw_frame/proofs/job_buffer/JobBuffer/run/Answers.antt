use Rattle.tw_frame.proofs.Names.{IsSeen, ap, has_slow, refl, subst, sym, ℕ}
use Rattle.tw_frame.specs.declared.job_buffer.JobOutcome.{JobOutcome}
use Rattle.tw_frame.specs.JobBuffers.{IsKept}
use Rattle.tw_frame.proofs.Pacing.{unseen}
use Rattle.tw_frame.proofs.job_buffer.JobBuffer.run.Goals as goal

pub returns-then-is_at_stop-clause-run : goal.returns-then-is_at_stop-clause-run
returns-then-is_at_stop-clause-run g c =
    let job = c.args.self.now in
    subst (λ (o : JobOutcome). IsKept job.lent.program.program job.lent.procedure job.lent.position job.after.value job.again.value o) (sym c.of.ensures) (record { done = c.if-is_at_stop.ensures refl; twice = λ moved. cc })

pub returns-then-is_at_stop-clause-seen : goal.returns-then-is_at_stop-clause-seen
returns-then-is_at_stop-clause-seen g c = λ p here.
    subst (λ (n : ℕ). IsSeen (has_slow p.code) g.S.StopSignal.says c.args.stop.now c.args.stop.now n) (sym (ap (λ (o : JobOutcome). o.steps) c.of.ensures)) (unseen g.S.StopSignal.says (has_slow p.code) c.args.stop.now)
