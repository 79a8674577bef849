use Rattle.tw_host.proofs.Names.{HasText, IsProgram, JobView, List, Procedure, Scalar, Some, ap, slice_get, slice_get-get_or, subst, sym, ◌∙◌, ◌≡◌}
use Rattle.tw_host.proofs.Holding as holding
use Rattle.tw_host.proofs.batch.is_brief.Goals as goal

pub returns-then-budget-le-FEW_INSTRUCTIONS : goal.returns-then-budget-le-FEW_INSTRUCTIONS
returns-then-budget-le-FEW_INSTRUCTIONS c = λ holds.
    let job = c.args.job.now in
    let v = c.program-verified.result.now in
    let p = c.in-Some.procedure.now in
    let lookup = c.in-Some.ensures.lookup in
    let listed = c.procedures.result.now in
    let number = c.from-number.result in
    let all : listed ≡ v.program = c.procedures.ensures.is ∙ c.program.ensures.is in
    let same : number ≡ job.procedure = c.from-number.ensures ∙ (c.procedure.ensures ∙ ap (λ (j : JobView). j.procedure) c.lent-lent.ensures) in
    let here : slice_get listed number ≡ Some p = slice_get-get_or listed number p lookup.3.0 ∙ ap Some (sym (lookup.3.1 p)) in
    holding.is_brief job v (c.program-verified.ensures ∙ ap (λ (j : JobView). j.program) c.lent-lent.ensures) number same p (ap (λ (xs : List Procedure). slice_get xs number) (sym all) ∙ here)
    c.budget.result c.budget.ensures.is c.if-budget-le-FEW_INSTRUCTIONS.true (subst (λ (ps : List Procedure). IsProgram ps) c.program.ensures.is c.procedures.ensures.within) c.program.ensures.right
    (λ text. c.has_no_text.ensures holds (subst (λ (types : List Scalar). HasText types) (sym c.as_slice.ensures) text))
