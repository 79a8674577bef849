use Rattle.tw_bounds.proofs.Names.{List, Row, RowsFrom, arith, cost_in, flow_of, flows, length-map, subst, sym, ℕ, ◌+◌, ◌-◌, ◌≡◌}
use Rattle.tw_bounds.proofs.Tables.{rows_more}
use Rattle.tw_bounds.proofs.walk.greatest_walk_cost.Goals as goal

pub loop-place-preserved : goal.loop-place-preserved
loop-place-preserved c =
    let here : c.loop-place.place ≡ c.loop-place.place - 1 + 1 = omega arith in
    rows_more (cost_in c.args.costs.now) (flows c.args.code.now) c.loop-place.rows.items (c.loop-place.place - 1) c.row_at.result (omega (arith, length-map c.args.code.now flow_of)) (subst (λ (n : ℕ). RowsFrom (cost_in c.args.costs.now) (flows c.args.code.now) c.loop-place.rows.items n) here c.loop-place.invariant) c.row_at.ensures

pub row_of-whole-requires-clause-known : goal.row_of-whole-requires-clause-known
row_of-whole-requires-clause-known c =
    let here : c.loop-place.place ≡ 0 = omega arith in
    subst (λ (n : ℕ). RowsFrom (cost_in c.args.costs.now) (flows c.args.code.now) c.deref-2.result.now n) here (subst (λ (rows : List Row). RowsFrom (cost_in c.args.costs.now) (flows c.args.code.now) rows c.loop-place.place) (sym c.deref-2.ensures.value) c.loop-place.invariant)
