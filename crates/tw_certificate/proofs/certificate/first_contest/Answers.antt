use Rattle.std.proofs.Common.{◌∙◌, List, ap, subst}
use Rattle.std.proofs.lemmas.Result.{IfOk-weaker}
use Rattle.tw_code.specs.declared.procedure.Procedure.{Procedure}
use Rattle.tw_code.specs.format.Program.{IsProgram, Versioned}
use Rattle.tw_code.specs.machine.Opening.{opening}
use Rattle.tw_machine.specs.PlainView.{PlainView}
use Rattle.tw_verify.specs.Typed.{typings_of}
use Rattle.tw_certificate.specs.FirstContest.{IsFirstContest, IsFirstContestFrom}
use Rattle.tw_certificate.proofs.Noting.{run_short}
use Rattle.tw_certificate.proofs.certificate.first_contest.Goals as goal

pub first_contest_from-requires-clause-sizes : goal.first_contest_from-requires-clause-sizes
first_contest_from-requires-clause-sizes c =
    let program = c.args.verified.now.program in
    run_short program (typings_of c.args.verified.now) (subst IsProgram c.program-program.ensures.is c.procedures-procedures.ensures.within) c.no_trap.ensures.right c.args.layout c.args.inputs.now c.args.events.now
    c.requires.goes.0 c.requires.inputs c.requires.goes.1

pub returns-in-Ok-clause-first : goal.returns-in-Ok-clause-first
returns-in-Ok-clause-first c =
    let events = c.args.events.now in
    let inputs = c.args.inputs.now in
    IfOk-weaker c.first_contest_from.result _ _
    (λ found first.
    subst (λ (ps : List Procedure). IsFirstContestFrom ps c.args.layout events (opening ps inputs) found) (ap (λ (p : Versioned). p.procedures) c.in_ok-copy.ensures ∙ c.program-program.ensures.is)
    (subst (λ (v : PlainView). IsFirstContestFrom v.program v.layout events v.state found) c.in-Ok.ensures.opened first)) c.first_contest_from.ensures

pub returns-in-Ok-clause-same : goal.returns-in-Ok-clause-same
returns-in-Ok-clause-same c =
    let events = c.args.events.now in
    let inputs = c.args.inputs.now in
    IfOk-weaker c.first_contest_from.result _ _
    (λ found first none s end whole.
    let here : IsFirstContest c.args.verified.now.program inputs c.args.layout events found =
    subst (λ (ps : List Procedure). IsFirstContestFrom ps c.args.layout events (opening ps inputs) found) (ap (λ (p : Versioned). p.procedures) c.in_ok-copy.ensures ∙ c.program-program.ensures.is)
    (subst (λ (v : PlainView). IsFirstContestFrom v.program v.layout events v.state found) c.in-Ok.ensures.opened first) in
    c.one_result_if_uncontested.ensures.only.only inputs c.args.layout events s end whole (subst (IsFirstContest c.args.verified.now.program inputs c.args.layout events) none here)) c.first_contest_from.ensures
