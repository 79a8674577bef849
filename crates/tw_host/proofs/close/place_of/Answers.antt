use Rattle.tw_host.proofs.Names.{Actor, arith, map, slice_index_or, sym, ℕ, ◌∙◌, ◌≢◌, ◌≤◌}
use Rattle.tw_host.proofs.Ordering.{at_place, more_below}
use Rattle.tw_host.proofs.close.place_of.Goals as goal

pub loop-k-preserved : goal.loop-k-preserved
loop-k-preserved g c = λ j d above low.
    more_below (λ (n : ℕ). (e : Actor) → c.args.from ≤ n → slice_index_or (map (λ s. s.actor) c.args.seats.now) n e ≢ c.args.actor) c.loop-k.k (λ n under e up. c.loop-k.invariant n e up under)
    (λ e up same. let yes = c.is_seat_of.ensures.1 (sym (at_place (λ s. s.actor) c.args.seats.now c.loop-k.k c.index-seats-k.result e (omega arith) c.index-seats-k.is) ∙ same) in let no_ = c.if-is_seat_of.false in cc) j low d above
