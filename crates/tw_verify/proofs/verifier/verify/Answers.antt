use Rattle.tw_verify.proofs.VerifierNames.{IsAccepted, IsRejection, List, Procedure, subst}
use Rattle.tw_verify.proofs.Programs.{accepted, rejection_is_memory}
use Rattle.tw_verify.proofs.verifier.verify.Goals as goal

pub returns-in-Ok-clause-sound : goal.returns-in-Ok-clause-sound
returns-in-Ok-clause-sound c = subst IsAccepted c.procedures.ensures.is (accepted c.procedures.result.now c.in-Ok.findings c.in-Ok.ensures.accepted)

pub returns-in-Err-clause-complete : goal.returns-in-Err-clause-complete
returns-in-Err-clause-complete c = λ a.
    let r = c.in-Err.rejection in
    rejection_is_memory c.args.program.procedures r.no r.procedure r.place (subst (λ (program : List Procedure). IsRejection program r.no r.procedure r.place) c.procedures.ensures.is c.in-Err.ensures.refused) a

pub returns-in-Err-clause-first : goal.returns-in-Err-clause-first
returns-in-Err-clause-first c =
    let r = c.in-Err.rejection in
    (subst (λ (program : List Procedure). IsRejection program r.no r.procedure r.place) c.procedures.ensures.is c.in-Err.ensures.refused).first
