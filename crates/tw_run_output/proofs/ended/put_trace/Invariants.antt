use Rattle.tw_run_output.proofs.Tracing.{HasEvents}
use Rattle.tw_run_output.proofs.ended.put_trace.Given as goal

abbrev pub invariant-loop-index : goal.invariant-loop-index
invariant-loop-index l = HasEvents l.history.events l.index l.fn.out.items l.out.items
