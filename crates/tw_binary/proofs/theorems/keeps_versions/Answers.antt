use Rattle.tw_binary.proofs.Keeping as keeping
use Rattle.tw_binary.proofs.theorems.keeps_versions.Goals as goal

pub returns : goal.returns
returns c = keeping.keeps_versions
