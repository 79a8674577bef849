use Rattle.std.proofs.Common.{◌≡◌, ◌≤◌, ◌∙◌, List, arith, length, subst, sym}
use Rattle.std.proofs.lemmas.Result.{IfOk-weaker}
use Rattle.tw_types.specs.declared.input.Input.{Input}
use Rattle.tw_code.specs.machine.Inputs.{AreInputsOf}
use Rattle.tw_certificate.specs.FirstContest.{IsFirstContest}
use Rattle.tw_certificate.proofs.Noting.{inserted_there}
use Rattle.tw_run_output.proofs.RunNames.{Event, Went, reached}
use Rattle.tw_run_output.proofs.event_order.contest_in.Goals as goal

pub first_contest-requires : goal.first_contest-requires
first_contest-requires c =
    let program = c.args.verified.now.program in
    let order = c.args.order.now in
    let events = c.args.history.now.events in
    let all : c.deref.result.now ≡ events = c.deref.ensures.value ∙ c.in_ok-events.ensures in
    let s = c.requires.state in
    let here = subst (λ (given : List Input). reached program given order.options.layout events ≡ Went s) (sym c.as_slice.ensures) c.requires.reaches in
    record {
      inputs = subst (AreInputsOf program) (sym c.as_slice.ensures) c.requires.inputs;
      goes = (s, subst (λ (es : List Event). reached program c.as_slice.result.now order.options.layout es ≡ Went s) (sym all) here);
      few = subst (λ (es : List Event). length es ≤ 1000000) (sym all) (omega (arith, c.requires.few, c.events-most.ensures.most, c.events-most.ensures.value));
    }

pub returns-clause-first : goal.returns-clause-first
returns-clause-first c =
    let program = c.args.verified.now.program in
    let order = c.args.order.now in
    let all : c.deref.result.now ≡ c.args.history.now.events = c.deref.ensures.value ∙ c.in_ok-events.ensures in
    IfOk-weaker c.first_contest.result _ _
    (λ found first.
    subst (λ (es : List Event). IsFirstContest program order.inputs order.options.layout es found) all (subst (λ (given : List Input). IsFirstContest program given order.options.layout c.deref.result.now found) c.as_slice.ensures first)) c.first_contest.ensures.first

pub returns-clause-there : goal.returns-clause-there
returns-clause-there c =
    IfOk-weaker c.first_contest.result _ _ (λ found first. inserted_there c.args.verified.now.program c.args.order.now.options.layout _ _ found first) c.first_contest.ensures.first
