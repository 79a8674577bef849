use Rattle.tw_verify.proofs.VerifierNames.{IsProgram, subst, typings_of}
use Rattle.tw_soundness.proofs.Safe as safe
use Rattle.tw_soundness.proofs.StaysInOrder as order
use Rattle.tw_verify.proofs.theorems.no_trap.Goals as goal

pub returns-clause-safe : goal.returns-clause-safe
returns-clause-safe c = safe.no_trap c.args.verified.now.program (typings_of c.args.verified.now) (subst IsProgram c.program.ensures.is c.procedures-procedures.ensures.within) c.program.ensures.right

pub returns-clause-ordered : goal.returns-clause-ordered
returns-clause-ordered c = order.stays_in_order c.args.verified.now.program (typings_of c.args.verified.now) (subst IsProgram c.program.ensures.is c.procedures-procedures.ensures.within) c.program.ensures.right

pub returns-clause-others : goal.returns-clause-others
returns-clause-others c typings = order.stays_in_order c.args.verified.now.program typings (subst IsProgram c.program.ensures.is c.procedures-procedures.ensures.within)
