use Rattle.tw_code.proofs.Next as next
use Rattle.tw_code.proofs.theorems.some_enabled.Goals as goal

pub returns : goal.returns
returns c = next.some_enabled
