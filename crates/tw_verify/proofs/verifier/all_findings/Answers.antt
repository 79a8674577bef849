use Rattle.std.proofs.Common.{◌≡◌, ◌+◌, ◌∷◌, [], ◌++◌, List, length, refl, sym, ◌∙◌, subst}
use Rattle.tw_verify.proofs.VerifierNames.{AreTyped, Findings, IsRejection, slice_get_read}
use Rattle.tw_verify.specs.declared.fault.Rejection.{Rejection}
use Rattle.tw_verify.proofs.Programs.{rejection_by, accepted_more}
use Rattle.tw_verify.proofs.verifier.all_findings.Goals as goal

pub returns-in-Err-clause-refused : goal.returns-in-Err-clause-refused
returns-in-Err-clause-refused c =
    let program = c.args.procedures.now in
    let number = c.loop-number.number in
    let p = c.index-procedures-number.result in
    let here = slice_get_read program (length program) number p refl c.loop-number-test.true c.index-procedures-number.is in
    let main = sym c.has_main_shape.ensures ∙ c.if-not-has_main_shape.false in
    subst (λ (r : Rejection). IsRejection program r.no r.procedure r.place) (sym c.new.ensures)
    (rejection_by program c.loop-number.all.items number p c.in-Err.fault main c.loop-number.invariant here c.in-Err.ensures.refused)

pub loop-number-preserved : goal.loop-number-preserved
loop-number-preserved c =
    let program = c.args.procedures.now in
    let number = c.loop-number.number in
    let p = c.index-procedures-number.result in
    let own = c.in-Ok.findings in
    let here = slice_get_read program (length program) number p refl c.loop-number-test.true c.index-procedures-number.is in
    let kept : c.keep.new.list.items ≡ c.loop-number.all.items ++ own ∷ [] = c.in_ok-keep.ensures in
    subst (λ (all : List Findings). AreTyped program all (number + 1)) (sym kept)
    (accepted_more program c.loop-number.all.items number p own c.loop-number.invariant here c.in-Ok.ensures.accepted)
