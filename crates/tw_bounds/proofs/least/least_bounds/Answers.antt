use Rattle.tw_bounds.proofs.Names.{AreLeastBounds, LeastRuns, LimitedBounds, None, Option, Some, ap, least, subst, sym, ℕ, ◌∙◌}
use Rattle.tw_bounds.proofs.LeastRuns.{least_runs, main_runs}
use Rattle.tw_bounds.proofs.least.least_bounds.Goals as goal

pub returns-in-Some-clause-are : goal.returns-in-Some-clause-are
returns-in-Some-clause-are c =
    let same = c.least.ensures ∙ ap (λ (b : LimitedBounds). least b c.limited_bounds.result) c.main_of-main.ensures in
    subst (λ (o : Option ℕ). AreLeastBounds c.args.verified.now.program o c.least.result) (sym c.in-Some.is)
    (c.in_ok-bounds.bounds, c.limited_bounds.result, c.in_ok-bounds.ensures.are, c.limited_bounds.ensures.are, same)

pub returns-in-Some-clause-runs : goal.returns-in-Some-clause-runs
returns-in-Some-clause-runs c =
    let program = c.args.verified.now.program in
    let same = c.least.ensures ∙ ap (λ (b : LimitedBounds). least b c.limited_bounds.result) c.main_of-main.ensures in
    let runs = least_runs program c.in_ok-bounds.bounds c.in-Some.most c.limited_bounds.result c.in_ok-bounds.ensures.runs c.limited_bounds.ensures.runs in
    subst (λ (o : Option ℕ). LeastRuns program o c.least.result) (sym c.in-Some.is) (subst (λ (b : LimitedBounds). LeastRuns program (Some c.in-Some.most) b) (sym same) runs)

pub returns-clause-are : goal.returns-clause-are
returns-clause-are c =
    subst (λ (o : Option ℕ). AreLeastBounds c.args.verified.now.program o c.main_of-main.result) (sym c.in-None.is)
    (c.in_ok-bounds.bounds, c.in_ok-bounds.ensures.are, c.main_of-main.ensures)

pub returns-clause-runs : goal.returns-clause-runs
returns-clause-runs c =
    let program = c.args.verified.now.program in
    subst (λ (o : Option ℕ). LeastRuns program o c.main_of-main.result) (sym c.in-None.is)
    (subst (λ (b : LimitedBounds). LeastRuns program None b) (sym c.main_of-main.ensures) (main_runs program c.in_ok-bounds.bounds c.in_ok-bounds.ensures.runs))
