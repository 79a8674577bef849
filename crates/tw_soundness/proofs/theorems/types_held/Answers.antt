use Rattle.tw_soundness.proofs.Safe as safe
use Rattle.tw_soundness.proofs.theorems.types_held.Goals as goal

pub returns-clause-numbers : goal.returns-clause-numbers
returns-clause-numbers c = λ program typings layout event s next is right held e. (safe.kept_by program typings layout event s next is right held e).numbers

pub returns-clause-types : goal.returns-clause-types
returns-clause-types c = λ program typings layout event s next is right held e. (safe.kept_by program typings layout event s next is right held e).types
