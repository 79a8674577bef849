use Rattle.tw_isolation.proofs.ByRight.{changes_by_write_right}
use Rattle.tw_isolation.proofs.Events.{are_isolated}
use Rattle.tw_isolation.proofs.theorems.isolated.Goals as goal

pub returns-clause-isolated : goal.returns-clause-isolated
returns-clause-isolated c = are_isolated

pub returns-clause-by_right : goal.returns-clause-by_right
returns-clause-by_right c = changes_by_write_right
