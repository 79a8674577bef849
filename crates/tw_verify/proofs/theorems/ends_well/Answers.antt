use Rattle.tw_verify.proofs.VerifierNames.{IsProgram, subst, typings_of}
use Rattle.tw_soundness.proofs.Ends as ends
use Rattle.tw_soundness.proofs.Safe.{reached_is_held}
use Rattle.tw_verify.proofs.theorems.ends_well.Goals as goal

pub returns : goal.returns
returns c inputs layout events s given e =
    let program = c.args.verified.now.program in
    let typings = typings_of c.args.verified.now in
    ends.ends_well program typings s (reached_is_held program typings (subst IsProgram c.program.ensures.is c.procedures-procedures.ensures.within) c.program.ensures.right inputs layout events s given e)
