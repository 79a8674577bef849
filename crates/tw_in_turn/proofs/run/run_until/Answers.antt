use Rattle.tw_in_turn.proofs.Names.{AreKept, DoneView, List, Option, PoolView, all_owed, ap, is_stop, looks, opened, refl, subst, sym, ◌∙◌}
use Rattle.tw_in_turn.proofs.Leaving.{left_after}
use Rattle.tw_in_turn.proofs.Watching.{all_looks}
use Rattle.tw_in_turn.proofs.run.run_until.Goals as goal

pub turn_all-end-requires-clause-kept : goal.turn_all-end-requires-clause-kept
turn_all-end-requires-clause-kept g c =
    let pool = c.in_ok-pool.pool in
    let first = ap (λ (p : PoolView). p.history) c.in_ok-pool.ensures.opened in
    let layout = ap (λ (p : PoolView). p.layout) c.in_ok-pool.ensures.opened in
    subst (λ (kept : List (Option DoneView)). AreKept pool kept) (sym c.as_mut_slice.ensures.value)
    (c.in-Ok.ensures.kept pool (record { first = first; count_is = rw layout c.actor_count.ensures.is }))

pub returns-clause-left : goal.returns-clause-left
returns-clause-left g c =
    let pool = c.in_ok-pool.pool in
    let made = c.shut-outcome-2 in
    let ends = c.turn_all-end.ensures.ends in
    let watched = all_looks pool c.turn_all-end.new.pool c.as_mut_slice.result.now made.result.1 ends.1 (ap (λ (q : PoolView). q.history) c.in_ok-pool.ensures.opened) (ap all_owed c.as_mut_slice.ensures.value ∙ c.in-Ok.ensures.nothing) made.ensures.left.events ends.2 in
    let left = left_after pool (opened c.args.verified.now c.args.inputs.now c.args.layout c.args.limit) c.turn_all-end.new.pool made.result.0 made.result.1 c.in_ok-pool.ensures.opened c.args.seed ends.0 c.turn_all-end.result refl ends.4 c.turn_all-end.ensures.grown made.ensures.left made.ensures.ends_well in
    (looks ends.1 (is_stop c.turn_all-end.result), ends.3, (ends.0, ends.1, watched, refl, left))
