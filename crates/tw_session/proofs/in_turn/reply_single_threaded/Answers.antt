use Rattle.tw_session.proofs.SessionNames.{may_be_stopped}
use Rattle.tw_session.proofs.Ran.{made_as}
use Rattle.tw_session.proofs.in_turn.reply_single_threaded.Goals as goal

pub made_reply-requires-clause-made : goal.made_reply-requires-clause-made
made_reply-requires-clause-made c =
    let made = c.run_in_turn-made in
    let may = may_be_stopped c.args.run.order.options in
    made_as made.result may c.args.run c.as_slice-inputs.result.now c.events-limit.result c.as_slice-inputs.ensures c.events-limit.ensures.value made.ensures.allowed (made.ensures.left may) made.ensures.refused
