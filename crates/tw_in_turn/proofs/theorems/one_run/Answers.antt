use Rattle.tw_in_turn.proofs.Same as same
use Rattle.tw_in_turn.proofs.theorems.one_run.Goals as goal

pub returns-clause-pool : goal.returns-clause-pool
returns-clause-pool c = same.one_run

pub returns-clause-results : goal.returns-clause-results
returns-clause-results c = same.same_left
