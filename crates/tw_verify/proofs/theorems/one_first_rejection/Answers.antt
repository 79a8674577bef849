use Rattle.tw_verify.proofs.OneRejection as one_rejection
use Rattle.tw_verify.proofs.Programs.{not_both}
use Rattle.tw_verify.proofs.theorems.one_first_rejection.Goals as goal

pub returns-clause-one : goal.returns-clause-one
returns-clause-one c = one_rejection.one_first_rejection

pub returns-clause-accepted : goal.returns-clause-accepted
returns-clause-accepted c = not_both
