use Rattle.std.proofs.Common.{IfOk, Option, subst}
use Rattle.tw_pool.specs.declared.answer.Closing.{Closing}
use Rattle.tw_run_output.specs.Ends.{IsReportAs}
use Rattle.tw_run_output.proofs.end_report.report.Goals as goal

pub returns : goal.returns
returns c = subst (λ (over : Option Closing). IfOk c.report_as.result (λ text. IsReportAs c.args.left.now over text.items)) c.closing.ensures c.report_as.ensures
