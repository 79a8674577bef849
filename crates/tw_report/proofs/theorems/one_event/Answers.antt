use Rattle.tw_report.proofs.Written as laws
use Rattle.tw_report.proofs.theorems.one_event.Goals as goal

pub returns : goal.returns
returns c = laws.one_event
