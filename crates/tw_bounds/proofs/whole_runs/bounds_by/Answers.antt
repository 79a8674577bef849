use Rattle.tw_bounds.proofs.Names.{AreAllBounds, AreCappedBounds, AreReported, Bound, Err, Global, IfOk, IsBoundable, IsProgram, List, Ok, Procedure, Result, Vec, ap, map, reported, subst, sym, ◌∙◌, ◌≡◌}
use Rattle.std.specs.declared.alloc.AllocError.{AllocError}
use Rattle.tw_bounds.proofs.Accepting.{is_boundable}
use Rattle.tw_bounds.proofs.Reporting.{reported_exact}
use Rattle.tw_bounds.proofs.whole_runs.bounds_by.Goals as goal

pub bounds-requires-clause-boundable : goal.bounds-requires-clause-boundable
bounds-requires-clause-boundable c =
    let same = c.procedures.ensures.is ∙ c.program-program.ensures.is in
    let within = subst (λ (ps : List Procedure). IsProgram ps) c.program-program.ensures.is c.procedures.ensures.within in
    subst IsBoundable (sym same) (is_boundable _ _ within c.program-program.ensures.right)

pub returns : goal.returns
returns c = by c.reports.result c.reports.ensures
  where
    solved : AreCappedBounds c.procedures.result.now c.args.weights.now c.in_ok-numbers.numbers.items
    solved = c.in_ok-numbers.ensures {u = tt}

    listed : (bounds : List Bound) → bounds ≡ map reported c.deref.result.now → AreReported c.args.verified.now.program c.args.weights.now bounds
    listed bounds e = (
      solved.0,
      subst (λ (ps : List Procedure). AreAllBounds ps c.args.weights.now solved.0) (c.procedures.ensures.is ∙ c.program-program.ensures.is) solved.1,
      e ∙ ap (map reported) (c.deref.ensures.value ∙ solved.2) ∙ reported_exact solved.0,
    )

    by : (r : Result (Vec Bound Global) AllocError) → IfOk r (λ bounds. bounds.items ≡ map reported c.deref.result.now) → IfOk r (λ bounds. AreReported c.args.verified.now.program c.args.weights.now bounds.items)
    by (Ok bounds) e = listed bounds.items e
    by (Err error) e = e
