use Rattle.tw_run_output.proofs.RunEvents.{all_events, event_more}
use Rattle.tw_run_output.proofs.ended.events_of.Goals as goal

pub loop-index-preserved : goal.loop-index-preserved
loop-index-preserved c = event_more c.args.history.now.events c.loop-index.index c.event.result c.loop-index.events.items c.push.new.self.items c.loop-index.invariant c.event.ensures c.in_ok-push.ensures.items

pub returns : goal.returns
returns c = all_events c.args.history.now.events c.loop-index.index c.loop-index.events.items (rw (← c.len-index-end.ensures) c.loop-index-test.false) c.loop-index.invariant
