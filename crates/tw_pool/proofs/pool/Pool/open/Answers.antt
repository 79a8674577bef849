use Rattle.tw_pool.proofs.Names.{HistoryView, IsKept, subst, sym}
use Rattle.tw_pool.proofs.Opened.{kept}
use Rattle.tw_pool.proofs.pool.Pool.open.Goals as goal

pub invariant_of-result : goal.invariant_of-result
invariant_of-result c =
    subst (λ (h : HistoryView). IsKept c.args.verified.now c.args.inputs.now c.args.layout h.limit h.events c.in_ok-parts.parts) (sym c.in_ok-history.ensures)
    (kept c.args.verified.now c.args.inputs.now c.args.layout c.args.limit c.in_ok-parts.parts c.in_default.ensures c.in_ok-parts.ensures)
