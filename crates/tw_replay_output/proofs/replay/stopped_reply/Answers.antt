use Rattle.std.proofs.Common.{◌≡◌, subst, sym}
use Rattle.tw_types.specs.Cause.{cause_number}
use Rattle.tw_instr.specs.Attempts.{IsStopped}
use Rattle.tw_replay_output.specs.Replay.{ByOutcome, after_event}
use Rattle.tw_replay_output.proofs.ReplayNames.{IfOk-weaker, NotEnabled, Outcome, Refused, Reply, State, Trap, Trapped, coded, not_enabled_line, reply, trap_line, uncoded}
use Rattle.tw_source.specs.declared.failure.Position.TheVariants as position
use Rattle.tw_replay_output.proofs.replay.stopped_reply.Goals as goal

pub returns-in-NotEnabled : goal.returns-in-NotEnabled
returns-in-NotEnabled c =
    IfOk-weaker c.not_enabled_reply.result (λ (r : Reply). reply r.text.items r.close ≡ reply (not_enabled_line c.args.event) (Refused (uncoded (position.Event c.args.event)))) _
    (λ (r : Reply) h o next stopped.
    let is : o ≡ NotEnabled = subst (IsStopped o) c.in-NotEnabled.is stopped in
    subst (λ (p : Outcome State). ByOutcome p (λ s. ⊥) (reply r.text.items r.close ≡ after_event c.args.event p next)) (sym is) h) c.not_enabled_reply.ensures

pub returns-in-Trap : goal.returns-in-Trap
returns-in-Trap c =
    let cause = c.in-Trap.cause in
    IfOk-weaker c.trap_reply.result (λ (r : Reply). reply r.text.items r.close ≡ reply (trap_line (cause_number cause) c.args.event) (Trapped (coded 67 (cause_number cause) (position.Event c.args.event)))) _
    (λ (r : Reply) h o next stopped.
    let is : o ≡ Trap cause = subst (IsStopped o) c.in-Trap.is stopped in
    subst (λ (p : Outcome State). ByOutcome p (λ s. ⊥) (reply r.text.items r.close ≡ after_event c.args.event p next)) (sym is) h) c.trap_reply.ensures
