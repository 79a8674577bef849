use Rattle.tw_host.proofs.Names.{Instr, IsStop, JobView, List, Procedure, Some, TypedProgram, ap, slice_get, slice_get-get_or, subst, sym, ℕ, ◌∙◌, ◌≡◌}
use Rattle.tw_host.proofs.batch.is_at_stop.Goals as goal

pub returns-in-Some : goal.returns-in-Some
returns-in-Some c = λ holds.
    let job = c.args.job.now in
    let p = c.in-Some.procedure.now in
    let lookup = c.in-Some.ensures.lookup in
    let listed = c.procedures-procedures.result.now in
    let number = c.from.result in
    let all : listed ≡ job.program.program = c.procedures-procedures.ensures.is ∙ (c.program-2.ensures.is ∙ (ap (λ (t : TypedProgram). t.program) c.program.ensures ∙ ap (λ (j : JobView). j.program.program) c.lent-lent.ensures)) in
    let same : number ≡ job.procedure = c.from.ensures ∙ (c.procedure.ensures ∙ ap (λ (j : JobView). j.procedure) c.lent-lent.ensures) in
    let place : c.place.result ≡ job.position.place = c.place.ensures ∙ ap (λ (j : JobView). j.position.place) c.lent-lent.ensures in
    let here : slice_get listed number ≡ Some p = slice_get-get_or listed number p lookup.3.0 ∙ ap Some (sym (lookup.3.1 p)) in (
      p,
      ap (slice_get job.program.program) (sym same) ∙ (ap (λ (xs : List Procedure). slice_get xs number) (sym all) ∙ here),
      subst (λ (n : ℕ). IsStop p.code n) place (subst (λ (code : List Instr). IsStop code c.place.result) c.as_slice.ensures (c.stops_at.ensures holds)),
    )
