use Rattle.std.proofs.Common.{◌≡◌, ◌∙◌, List, ap, subst, ℕ}
use Rattle.tw_replay_output.proofs.ReplayNames.{IfOk-weaker, Input, Position, Procedure, Reply, Spoken, coded, failed, failed_with, reply, text_of}
use Rattle.tw_replay_output.specs.Opening.{AreOpeningDetails}
use Rattle.tw_replay_output.proofs.Behinds.{inputs_refused, main_refused}
use Rattle.tw_replay_output.proofs.replay_details.unopened_reply.Goals as goal

pub returns-in-MainShape : goal.returns-in-MainShape
returns-in-MainShape c =
    let refused = c.args.refused.now in
    IfOk-weaker _ _ _
    (λ (r : Reply) h. main_refused (text_of c.args.source.now) refused.program.procedures c.args.order.now.inputs refused.no c.number.result (reply r.text.items r.close) c.in-MainShape.is c.number.ensures (h ∙ ap failed c.opening_failure-failure.ensures)) c.failed_reply.ensures

pub returns-in_default : goal.returns-in_default
returns-in_default c =
    let refused = c.args.refused.now in
    let given : (r : Spoken) → ((at : Position) × (more : List ℕ) × AreOpeningDetails (text_of c.args.source.now) c.procedures.result.now c.as_slice.result.now at more × (r ≡ failed_with (coded 79 c.number-in_default.result at) more))
    → (at : Position) × (more : List ℕ) × AreOpeningDetails (text_of c.args.source.now) refused.program.procedures c.args.order.now.inputs at more × (r ≡ failed_with (coded 79 c.number-in_default.result at) more) = λ r h. (
      h.0,
      h.1,
      subst (λ (ps : List Procedure). AreOpeningDetails (text_of c.args.source.now) ps c.args.order.now.inputs h.0 h.1) c.procedures.ensures.is
          (subst (λ (xs : List Input). AreOpeningDetails (text_of c.args.source.now) c.procedures.result.now xs h.0 h.1) c.as_slice.ensures h.2),
      h.3,
    ) in
    IfOk-weaker _ _ _
    (λ (r : Reply) h. inputs_refused (text_of c.args.source.now) refused.program.procedures c.args.order.now.inputs refused.no c.number-in_default.result (reply r.text.items r.close) c.in_default.not-MainShape c.in_default.not-NoMemory c.number-in_default.ensures
    (given (reply r.text.items r.close) h)) c.inputs_refused_reply.ensures
