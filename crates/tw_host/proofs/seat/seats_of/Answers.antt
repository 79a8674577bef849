use Rattle.tw_host.proofs.Names.{Event, List, [], actor_at, ap, arith, map, range_with_len, sym, ◌+◌, ◌∙◌}
use Rattle.tw_host.proofs.Lists.{map_map, one_more}
use Rattle.tw_host.proofs.seat.seats_of.Goals as goal

pub loop-seat-preserved : goal.loop-seat-preserved
loop-seat-preserved g c =
    let inv = c.loop-seat.invariant in
    let pushed = c.push_reserved.ensures in
    let low = c.loop-seat-test.true in
    let seat = c.loop-seat.seat in
    let at = actor_at c.args.layout in
    let none : List Event = [] in record {
      parts = omega (arith, inv.parts, c.split_off-share.ensures.parts_left);
      amount = omega (arith, inv.amount, c.split_off-share.ensures.amount_left);
      len = omega (arith, inv.len, pushed.len);
      room = omega (arith, inv.room, pushed.capacity);
      actors = ap (map (λ s. s.actor)) pushed.items ∙ one_more (λ s. s.actor) at c.loop-seat.seats.items _ seat inv.actors c.actor_at.ensures.is;
      events = ap (map (λ s. s.events.items)) pushed.items ∙ (one_more (λ s. s.events.items) (λ _. none) c.loop-seat.seats.items _ seat (inv.events ∙ map_map at (λ _. none) (range_with_len 0 seat)) c.new.ensures ∙ sym (map_map at (λ _. none) (range_with_len 0 (seat + 1))));
    }
