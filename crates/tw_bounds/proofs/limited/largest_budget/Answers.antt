use Rattle.tw_bounds.proofs.Names.{IsLargestOf, List, Procedure, ap, arith, length, subst, sym, ℕ, ◌+◌, ◌∙◌, ◌≡◌}
use Rattle.tw_bounds.proofs.Largest.{largest_first, largest_more}
use Rattle.tw_bounds.proofs.limited.largest_budget.Goals as goal

pub loop-number-init : goal.loop-number-init
loop-number-init c = (largest_first c.args.verified.now.program, omega arith)

pub loop-number-preserved : goal.loop-number-preserved
loop-number-preserved c =
    let more = largest_more c.args.verified.now.program c.loop-number.number c.loop-number.most c.budget.result c.budget.ensures.is c.loop-number.invariant.0 in
    let small = c.loop-number.invariant.1 in
    (subst (λ (n : ℕ). IsLargestOf c.args.verified.now.program (c.loop-number.number + 1) n) (sym c.larger-most.ensures) more, omega (arith, small, c.budget.ensures.within, c.larger-most.ensures))

pub returns-clause-is : goal.returns-clause-is
returns-clause-is c =
    let same = ap (λ (ps : List Procedure). length ps) (c.procedures-number-end.ensures.is ∙ c.program-program.ensures.is) in
    let all : c.loop-number.number ≡ length c.args.verified.now.program = omega (arith, same, c.loop-number-test.false, c.loop-number.auto.number-end) in
    subst (λ (n : ℕ). IsLargestOf c.args.verified.now.program n c.loop-number.most) all c.loop-number.invariant.0

pub returns-clause-small : goal.returns-clause-small
returns-clause-small c = c.loop-number.invariant.1
