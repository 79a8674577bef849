use Rattle.tw_bounds.proofs.Names.{AreCosts, Instr, IsSound, List, Scalar, ap, arith, cost_in, flows, greatest_cost, subst, sym, ℕ, ◌∙◌}
use Rattle.tw_budget.proofs.Sound.{sound_flows}
use Rattle.tw_bounds.proofs.Partial.{capped_bound_made}
use Rattle.tw_bounds.proofs.solving.bound_of.Goals as goal

pub greatest_walk_cost-requires-clause-sound : goal.greatest_walk_cost-requires-clause-sound
greatest_walk_cost-requires-clause-sound c = subst (λ (code : List Instr). IsSound (flows code)) (sym c.as_slice-code.ensures) (sound_flows c.args.procedure.now c.requires.within c.requires.structured)

pub returns-clause-found : goal.returns-clause-found
returns-clause-found c = λ exact is.
    let costs = c.in-Some.costs.items in
    let all = c.in_ok-costs.ensures.costs in
    let h = rw c.in-Some.is at all in
    let walk = c.in_ok-walk.ensures in
    let same = ap (λ (xs : List ℕ). greatest_cost (cost_in xs) (flows c.as_slice-code.result.now) 0) c.deref.ensures.value ∙ ap (λ (code : List Instr). greatest_cost (cost_in costs) (flows code) 0) c.as_slice-code.ensures in
    let registers = subst (λ (types : List Scalar). AreCosts c.args.program.now c.args.weights.now c.args.known.now types c.as_slice-code.result.now costs) c.as_slice-registers.ensures h in
    let are = subst (λ (code : List Instr). AreCosts c.args.program.now c.args.weights.now c.args.known.now c.args.procedure.now.registers code costs) c.as_slice-code.ensures registers in
    capped_bound_made c.args.program.now c.args.weights.now c.args.known.now exact c.args.procedure.now is (sound_flows c.args.procedure.now c.requires.within c.requires.structured) costs are c.capped.result (omega (arith, walk, same, c.task_weight.ensures.is, c.capped.ensures))
