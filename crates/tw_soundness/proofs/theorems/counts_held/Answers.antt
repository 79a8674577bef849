use Rattle.tw_soundness.proofs.Safe as safe
use Rattle.tw_soundness.proofs.theorems.counts_held.Goals as goal

pub returns : goal.returns
returns c = λ program typings layout event s next is right held e. (safe.kept_by program typings layout event s next is right held e).counts
