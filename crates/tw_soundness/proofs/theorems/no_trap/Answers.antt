use Rattle.tw_soundness.proofs.Safe as safe
use Rattle.tw_soundness.proofs.StaysInOrder as order
use Rattle.tw_soundness.proofs.theorems.no_trap.Goals as goal

pub returns-clause-safe : goal.returns-clause-safe
returns-clause-safe c = safe.no_trap

pub returns-clause-ordered : goal.returns-clause-ordered
returns-clause-ordered c = order.stays_in_order
