use Rattle.std.proofs.Common.{◌∙◌, ◌++◌, sym, codes}
use Rattle.std.proofs.lemmas.List.{append-nil}
use Rattle.std.proofs.lemmas.Result.{on_ok_weaker}
use Rattle.tw_run_output.proofs.Tracing.{one_event, whole_trace}
use Rattle.tw_run_output.proofs.ended.put_trace.Goals as goal

pub loop-index-init : goal.loop-index-init
loop-index-init c = c.in_ok-put.ensures ∙ sym (append-nil (c.args.out.now.items ++ codes "events\n"))

pub loop-index-preserved : goal.loop-index-preserved
loop-index-preserved c =
    one_event c.args.history.now.events c.loop-index.index c.event.result c.args.out.now.items c.loop-index.out.items c.put_event_line.new.out.items c.loop-index.invariant c.event.ensures c.in_ok-put_event_line.ensures

pub returns : goal.returns
returns c =
    on_ok_weaker c.put-2.result (λ added. whole_trace c.args.history.now.events c.loop-index.index c.args.asked c.args.out.now.items c.loop-index.out.items c.put-2.new.out.items c.if-not-asked.false c.loop-index.invariant (rw (← c.len-index-end.ensures) c.loop-index-test.false) added) c.put-2.ensures
