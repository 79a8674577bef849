use Rattle.tw_report.proofs.Written as laws
use Rattle.tw_report.proofs.theorems.events_are_read_back.Goals as goal

pub returns : goal.returns
returns c = laws.events_are_read_back
