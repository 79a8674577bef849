use Rattle.std.proofs.Common.{◌++◌, ◌∙◌, ℕ, List, ap}
use Rattle.tw_source.specs.Reply.{reply}
use Rattle.tw_run_output.specs.Run.{trace_text}
use Rattle.tw_source.specs.declared.close.Close.{Close}
use Rattle.tw_run_output.proofs.ended.ended_reply.Goals as goal

pub put_outcome-requires-clause-finished : goal.put_outcome-requires-clause-finished
put_outcome-requires-clause-finished c = record { inputs = c.requires.inputs; few = c.requires.over.few; state = c.requires.over.state; reaches = c.requires.over.reaches }

pub returns : goal.returns
returns c = λ over.
    let trace = trace_text c.args.order.now.options.trace c.args.history.now.events in
    let (lines, output, added) = c.in_ok-put_outcome.ensures over in
    let (printed, more, is, are, joined) = output in
    let whole =
    added
    ∙ ap (λ (t : List ℕ). t ++ lines) (c.in_ok-put_trace.ensures ∙ ap (λ (t : List ℕ). t ++ trace) c.new-text.ensures.items)
    ∙ ap (λ (t : List ℕ). trace ++ t) joined in
    (printed, more, is, are, ap (λ (t : List ℕ). reply t c.close_of.result) whole ∙ ap (λ (k : Close). reply (trace ++ (printed ++ more)) k) c.close_of.ensures)
