use Rattle.tw_determinism.proofs.MachineNames.{IsProgram, subst, typings_of}
use Rattle.tw_determinism.proofs.EachFollows.{follows_each}
use Rattle.tw_determinism.proofs.Theorem as theorem
use Rattle.tw_determinism.proofs.theorems.one_result_if_uncopied.Goals as goal

pub returns-clause-never : goal.returns-clause-never
returns-clause-never c none = theorem.never_contests c.args.verified.now.program none

pub returns-clause-deterministic : goal.returns-clause-deterministic
returns-clause-deterministic c none =
    let program = c.args.verified.now.program in
    let typings = typings_of c.args.verified.now in
    let proper = subst IsProgram c.program.ensures.is c.procedures-procedures.ensures.within in
    let are = c.no_trap.ensures.right in
    theorem.deterministic program typings proper are (follows_each program typings proper are) (theorem.never_contests program none)
