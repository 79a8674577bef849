use Rattle.tw_session.proofs.SessionNames.{Bool, IsRunMade, subst, sym, ◌∙◌}
use Rattle.tw_session.proofs.order.run_as_ordered.Goals as goal

pub made_reply-requires-clause-made : goal.made_reply-requires-clause-made
made_reply-requires-clause-made g c = subst (λ (may : Bool). IsRunMade may c.args.run c.run_watched-made.result) (sym (sym c.may_be_stopped.ensures ∙ c.if-may_be_stopped.true)) c.run_watched-made.ensures
