use Rattle.tw_report.proofs.Histories as laws
use Rattle.tw_report.proofs.theorems.one_history.Goals as goal

pub returns : goal.returns
returns c = laws.one_history
