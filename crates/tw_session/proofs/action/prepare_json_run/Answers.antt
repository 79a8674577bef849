use Rattle.tw_session.proofs.SessionNames.{AreGiven, GivenInputs, List, Procedure, RepliesByJsonRun, RepliesIfRun, ap, inl, inr, main_params, run_with, subst, text_of, ◌∙◌, ◌≡◌}
use Rattle.tw_types.specs.declared.param.Param.{Param}
use Rattle.tw_session.specs.declared.action.GivenInputs.TheVariants as given
use Rattle.tw_session.proofs.Leading.{awaits}
use Rattle.tw_session.proofs.action.prepare_json_run.Goals as goal

pub returns-in-Inputs : goal.returns-in-Inputs
returns-in-Inputs c =
    let text = text_of c.args.source in
    let options = c.args.options in
    let program = c.args.program in
    let params : c.main_params-params.result.now ≡ main_params program.procedures = c.main_params-params.ensures ∙ ap (λ (p : List Procedure). main_params p) c.procedures.ensures.is in
    let made = subst (λ (g : GivenInputs). AreGiven c.main_params-params.result.now c.args.json.now g) c.in-Inputs.is c.in_ok-inputs.ensures in
    let read = subst (λ (ps : List Param). AreGiven ps c.args.json.now (given.Inputs c.in-Inputs.inputs)) params made in
    awaits c.prepare_run.result (RepliesIfRun text (run_with options c.in-Inputs.inputs) program) (RepliesByJsonRun text options c.args.json.now program) (λ r printed. inl (c.in-Inputs.inputs, read, printed)) c.prepare_run.ensures

pub returns : goal.returns
returns c =
    let params : c.main_params-params.result.now ≡ main_params c.args.program.procedures = c.main_params-params.ensures ∙ ap (λ (p : List Procedure). main_params p) c.procedures.ensures.is in
    let made = subst (λ (g : GivenInputs). AreGiven c.main_params-params.result.now c.args.json.now g) c.in-Fault.is c.in_ok-inputs.ensures in
    inr (subst (λ (ps : List Param). AreGiven ps c.args.json.now (given.Fault c.in-Fault.reply)) params made)
