use Rattle.tw_handles.specs.Texts.{IsReportOf}
use Rattle.tw_handles.proofs.MadeTexts.{made_text}
use Rattle.tw_handles.proofs.printing.print_report.Goals as goal

pub returns-in-Ok : goal.returns-in-Ok
returns-in-Ok c = made_text (IsReportOf c.args.left.now) c.in-Ok.made.items c.args.text.now.held c.keep_text.new.text.held c.keep_text.result c.in-Ok.ensures c.keep_text.ensures
