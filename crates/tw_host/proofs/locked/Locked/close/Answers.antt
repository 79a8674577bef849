use Rattle.tw_host.proofs.Names.{IsOther, Run, actors_of, ap, arith, events_of, inl, inr, is_in, length, length-map, length_permutation, map, refl, seen_by, subst, sym, ◌<◌, ◌∙◌}
use Rattle.tw_soundness.specs.EndsWell.{EndsWell}
use Rattle.tw_host.proofs.Comparing.{either_way, some_if}
use Rattle.tw_host.proofs.Lists.{at_same}
use Rattle.tw_host.proofs.Ordering.{all_at, by_seat, held, lacking, issued_back, list_at, moved_from, one_each, sums}
use Rattle.tw_host.proofs.locked.Locked.close.Goals as goal

pub returns-in-None : goal.returns-in-None
returns-in-None g c =
    let run = g.N.Named.run in
    let shut = c.shut-outcome.ensures.left in
    let inv = c.self.invariant in
    let items = c.args.seats.items in
    let seats = c.first_other-other.new.seats in
    let moved = moved_from c.as_mut_slice.result.now items seats c.as_mut_slice.ensures.value c.first_other-other.ensures.moved in
    let back = issued_back c.args.seats.len seats items c.args.seats.ok.0 (length_permutation items seats moved) in
    let history = c.shut-outcome.result.1.events in
    let all = all_at (λ s. seen_by s.actor s.events.items) seats seats c.history.result.now.events history refl (c.history.ensures.events ∙ sym shut.events) c.in-None.ensures.found.1 in
    let placed = c.in-None.ensures.found.0 ∙ ap actors_of (c.layout.ensures ∙ ap (λ r. r.layout) inv.of_run) in
    let whole = c.audit.ensures.whole (omega (arith, c.settle_seats-by_seat.ensures.parts, inv.no_part, c.requires.all, inv.seats)) in
    let same_sum = sums (λ s. seen_by s.actor s.events.items) items seats moved _ back in
    record {
      pool = c.self.inside.pool;
      of_run = inv.of_run;
      within = inv.within;
      shut = shut;
      ends_well = subst (λ (r : Run). EndsWell r.program.program shut.state) inv.of_run (c.shut-outcome.ensures.ends_well shut.state shut.has_state);
      one_each = one_each (λ s. s.actor) (λ s. s.events.items) run.layout history items seats moved placed all;
      by_seat_is = c.settle_seats-by_seat.ensures.lists ∙ ap (map (λ s. s.events.items)) back ∙ by_seat (λ s. s.actor) (λ s. s.events.items) run.layout history items seats moved placed all;
      together = omega (arith, c.settle_seats-by_seat.ensures.amount, whole, inv.counted, inv.no_amount, ap length shut.events, same_sum);
    }

pub list_of_place-requires : goal.list_of_place-requires
list_of_place-requires g c =
    let items = c.args.seats.items in
    let seats = c.first_other-other.new.seats in
    let moved = moved_from c.as_mut_slice.result.now items seats c.as_mut_slice.ensures.value c.first_other-other.ensures.moved in
    let back = issued_back c.args.seats.len seats items c.args.seats.ok.0 (length_permutation items seats moved) in
    let as_long = ap length (c.settle_seats-by_seat.ensures.lists ∙ ap (map (λ s. s.events.items)) back) in
    some_if _ c.in-Some.seat c.in-Some.ensures.found
    (λ k found. omega (arith, found.0, as_long, c.settle_seats-by_seat.result.ok.0, length-map c.settle_seats-by_seat.result.items (λ v. v.items), length-map seats (λ s. s.events.items), length-map seats (λ s. seen_by s.actor s.events.items)))

pub returns : goal.returns
returns g c =
    let shut = c.shut-outcome.ensures.left in
    let inv = c.self.invariant in
    let items = c.args.seats.items in
    let seats = c.first_other-other.new.seats in
    let moved = moved_from c.as_mut_slice.result.now items seats c.as_mut_slice.ensures.value c.first_other-other.ensures.moved in
    let back = issued_back c.args.seats.len seats items c.args.seats.ok.0 (length_permutation items seats moved) in
    let whole = c.audit.ensures.whole (omega (arith, c.settle_seats-by_seat.ensures.parts, inv.no_part, c.requires.all, inv.seats)) in
    let same_sum = sums (λ s. seen_by s.actor s.events.items) items seats moved _ back in
    let actor = c.in-Some.actor in
    let list = c.list_of_place.result.items in
    let lists = c.settle_seats-by_seat.ensures.lists ∙ ap (map (λ s. s.events.items)) back in
    let layout = c.layout.ensures ∙ ap (λ r. r.layout) inv.of_run in
    record {
      pool = c.self.inside.pool;
      of_run = inv.of_run;
      within = inv.within;
      final = c.shut-outcome.result.0;
      shut = shut;
      of_layout = ap (λ l. is_in l actor) (sym layout) ∙ c.in-Some.ensures.layout;
      other = either_way (IsOther (map (λ s. seen_by s.actor s.events.items) items) actor list c.shut-outcome.result.1.events) c.in-Some.seat c.in-Some.ensures.found c.list_of_place.ensures
          (λ none empty. inr (lacking (λ s. s.actor) (λ s. s.events.items) items seats moved actor none, empty))
          (λ k found value.
          let under : k < length (map (λ s. s.events.items) seats) = omega (arith, found.0, length-map seats (λ s. s.events.items), length-map seats (λ s. seen_by s.actor s.events.items)) in
          let is = at_same c.settle_seats-by_seat.result.items (map (λ s. s.events.items) seats) k c.list_of_place.result under lists value in
          let at = list_at (λ s. s.actor) (λ s. s.events.items) items seats moved seats refl k actor list found.0 is in
          inl (
            held (λ s. s.actor) (λ s. s.events.items) items seats moved seats refl k actor list found.0 is found.1,
            (λ e. found.2 (seen_by actor list) (at (seen_by actor list) ∙ (e ∙ ap (events_of actor) (shut.events ∙ sym c.history.ensures.events)))),
          ));
      together = omega (arith, c.settle_seats-by_seat.ensures.amount, whole, inv.counted, inv.no_amount, ap length shut.events, same_sum);
    }
