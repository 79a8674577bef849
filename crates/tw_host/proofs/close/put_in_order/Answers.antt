use Rattle.tw_host.proofs.Names.{IsPermutation-trans, arith, length_permutation, ◌∙◌}
use Rattle.tw_host.proofs.Ordering.{all_placed, none_of, placed_more}
use Rattle.tw_host.proofs.close.put_in_order.Goals as goal

pub loop-k-preserved : goal.loop-k-preserved
loop-k-preserved g c =
    let inv = c.loop-k.invariant in
    let at = c.in-Some.ensures in
    record {
      moved = IsPermutation-trans _ _ _ inv.moved c.swap.ensures.permutation;
      placed = placed_more (λ s. s.actor) c.args.layout c.loop-k.seats c.swap.new.self c.loop-k.k c.in-Some.place c.actor_at-actor.result inv.placed at.0 at.1 at.2 c.actor_at-actor.ensures.is c.swap.ensures.len c.swap.ensures.by_index;
    }

pub returns-in_default-clause-placed : goal.returns-in_default-clause-placed
returns-in_default-clause-placed g c = none_of (λ s. s.actor) c.args.layout c.loop-k.seats c.loop-k.k c.actor_at-actor.result c.loop-k.invariant.placed c.actor_at-actor.ensures.is c.in_default.ensures

pub returns-clause-placed : goal.returns-clause-placed
returns-clause-placed g c =
    let long = length_permutation _ _ c.loop-k.invariant.moved in
    all_placed (λ s. s.actor) c.args.layout c.loop-k.seats c.loop-k.k (long ∙ c.requires) (omega arith) c.loop-k.invariant.placed
