use Rattle.tw_determinism.proofs.MachineNames.{IsProgram, subst, typings_of}
use Rattle.tw_determinism.proofs.EachFollows.{follows_each}
use Rattle.tw_determinism.proofs.Theorem as theorem
use Rattle.tw_determinism.proofs.theorems.one_result_if_uncontested.Goals as goal

pub returns-clause-only : goal.returns-clause-only
returns-clause-only c =
    let program = c.args.verified.now.program in
    let typings = typings_of c.args.verified.now in
    let proper = subst IsProgram c.program.ensures.is c.procedures-procedures.ensures.within in
    let are = c.no_trap.ensures.right in
    theorem.uncontested_only program typings proper are (follows_each program typings proper are)

pub returns-clause-deterministic : goal.returns-clause-deterministic
returns-clause-deterministic c never =
    let program = c.args.verified.now.program in
    let typings = typings_of c.args.verified.now in
    let proper = subst IsProgram c.program.ensures.is c.procedures-procedures.ensures.within in
    let are = c.no_trap.ensures.right in
    theorem.deterministic program typings proper are (follows_each program typings proper are) never
