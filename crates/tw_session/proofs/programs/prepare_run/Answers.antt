use Rattle.tw_session.proofs.SessionNames.{List, MayBeSource, Procedure, RepliesByOpening, Some, inl, inr, run_with, subst, sym, text_of}
use Rattle.tw_order.specs.declared.form.Places.TheVariants.{Hidden}
use Rattle.tw_program_output.specs.Admission.{IsAdmittedOr}
use Rattle.tw_program_output.specs.declared.acceptance.Admitted.{Admitted}
use Rattle.tw_session.proofs.programs.prepare_run.Goals as goal

pub returns-in-Run : goal.returns-in-Run
returns-in-Run c =
    let order = run_with c.args.options c.args.inputs in
    let text = text_of c.args.source in
    let made = subst (λ (a : Admitted). IsAdmittedOr Hidden text c.args.program.procedures (Some order.options.limit) order.options.caps a) c.in-Run.is c.in_ok-verified.ensures in (
      subst (λ (p : List Procedure). MayBeSource c.args.source p) (sym made.0) c.requires,
      λ r h. inl (made.1, subst (λ (p : List Procedure). RepliesByOpening text p order r) made.0 h),
    )

pub returns : goal.returns
returns c =
    let order = run_with c.args.options c.args.inputs in
    inr (subst (λ (a : Admitted). IsAdmittedOr Hidden (text_of c.args.source) c.args.program.procedures (Some order.options.limit) order.options.caps a) c.in-Rejected.is c.in_ok-verified.ensures)
