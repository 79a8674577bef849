use Rattle.tw_code.proofs.Shown as shown
use Rattle.tw_code.proofs.theorems.shown_and_read.Goals as goal

pub returns : goal.returns
returns c = shown.shown_and_read
