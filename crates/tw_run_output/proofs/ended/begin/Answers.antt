use Rattle.std.proofs.Common.{◌≡◌, ◌≤◌, ◌∙◌, List, None, ap, arith, length, subst, sym}
use Rattle.tw_run_output.proofs.RunNames.{AreShort, Event, IsProgram, PlainView, Procedure, begins, rejection_of, typings_of}
use Rattle.tw_run_output.proofs.RunEvents.{opens, run_short}
use Rattle.tw_run_output.proofs.ended.begin.Goals as goal

pub first_machine-requires : goal.first_machine-requires
first_machine-requires c = subst (λ (ps : List Procedure). rejection_of ps c.args.order.now.inputs ≡ None) (sym c.into_program.ensures.is) (opens c.args.verified.program c.args.order.now.inputs c.program.ensures.accepted c.requires.inputs)

pub returns : goal.returns
returns c =
    let program = c.args.verified.program in
    let order = c.args.order.now in
    let run = c.requires in
    let version = c.into_program.result.version in
    let all = c.in_ok-events.ensures in
    let is = c.in_ok-first.ensures.first ∙ ap (λ (ps : List Procedure). begins version ps order) c.into_program.ensures.is in
    record {
      first = is ∙ ap (λ (v : PlainView). begins v.version program order) (sym is);
      events = all;
      below = c.in_ok-first.ensures.below;
      short = subst AreShort (sym all) (run_short program (typings_of c.args.verified) (subst IsProgram c.program.ensures.is c.procedures-procedures.ensures.within) c.program.ensures.right order.inputs order.options.layout c.args.history.now.events run.state run.inputs run.reaches);
      few = subst (λ (es : List Event). length es ≤ 16777217) (sym all) (omega (arith, run.few, c.events-most.ensures.most, c.events-most.ensures.value));
    }
