use Rattle.std.proofs.Common.{◌≡◌, true, [], ◌≤◌, ◌+◌, length, map, sym, subst, ap, ◌∙◌, arith, slice_get, get_or}
use Rattle.tw_host.proofs.Names.{actor_of, get_or-map, index_of, is_in, length-set}
use Rattle.tw_host.proofs.Comparing.{Found, as_many_seats, found_more, longer, made_by, match_by, missed, own_low, passed, whole}
use Rattle.tw_host.proofs.close.differing.Goals as goal
use Rattle.tw_host.proofs.close.differing.Goals.{then-has+else-not-is_next, else-has}

pub bounds-seats-own : goal.bounds-seats-own
bounds-seats-own g c =
    let layout = c.args.layout in
    let made = made_by c.args.history.now.events c.loop-k.k c.actor-actor.result c.actor-actor.ensures in
    let in_ : is_in layout (actor_of made.0) ≡ true = ap (is_in layout) made.2 ∙ (sym c.has.ensures ∙ c.if-has.true) in
    let is : c.index_of-own.result ≡ index_of layout (actor_of made.0) = c.index_of-own.ensures.value ∙ ap (index_of layout) (sym made.2) in
    let low = own_low layout c.args.history.now.events (map (λ s. s.events.items) c.args.seats.now) c.loop-k.found c.loop-k.k made.0 c.loop-k.invariant.are made.3 made.1 c.index_of-own.result in_ is in
    omega (arith, low, as_many_seats (λ s. s.actor) c.args.seats.now layout c.requires)

pub returns-then-not-is_next : goal.returns-then-not-is_next
returns-then-not-is_next g c =
    let layout = c.args.layout in
    let history = c.args.history.now.events in
    let seats = c.args.seats.now in
    let lists = map (λ s. s.events.items) seats in
    let own = c.index_of-own.result in
    let n = get_or c.loop-k.found own 0 in
    let made = made_by history c.loop-k.k c.actor-actor.result c.actor-actor.ensures in
    let in_ : is_in layout (actor_of made.0) ≡ true = ap (is_in layout) made.2 ∙ (sym c.has.ensures ∙ c.if-has.true) in
    let is : c.index_of-own.result ≡ index_of layout (actor_of made.0) = c.index_of-own.ensures.value ∙ ap (index_of layout) (sym made.2) in
    let low = own_low layout history lists c.loop-k.found c.loop-k.k made.0 c.loop-k.invariant.are made.3 made.1 own in_ is in
    let list = get_or-map (λ s. s.events.items) seats own c.index-seats-own.result [] (omega (arith, low, as_many_seats (λ s. s.actor) seats layout c.requires)) in (
      low,
      missed layout history lists c.loop-k.found c.loop-k.k made.0 c.loop-k.invariant.are made.3 made.1 own in_ is
          (λ e. let yes = c.is_next.ensures.1 (ap (λ es. slice_get es n) (sym list) ∙ (e ∙ sym made.1)) in let no_ = c.if-not-is_next.true in cc),
    )

pub overflow_add-found : goal.overflow_add-found
overflow_add-found g c =
    let layout = c.args.layout in
    let made = made_by c.args.history.now.events c.loop-k.k c.actor-actor.result c.actor-actor.ensures in
    let in_ : is_in layout (actor_of made.0) ≡ true = ap (is_in layout) made.2 ∙ (sym c.has.ensures ∙ c.if-has.true) in
    let is : c.index_of-own.result ≡ index_of layout (actor_of made.0) = c.index_of-own.ensures.value ∙ ap (index_of layout) (sym made.2) in
    let low = own_low layout c.args.history.now.events (map (λ s. s.events.items) c.args.seats.now) c.loop-k.found c.loop-k.k made.0 c.loop-k.invariant.are made.3 made.1 c.index_of-own.result in_ is in
    let few = (c.loop-k.invariant.are c.index_of-own.result low).0 in
    omega (arith, few, c.loop-k-test.true, c.len-k-end.type_inv)

pub loop-k-preserved : goal.loop-k-preserved
loop-k-preserved g c =
    let layout = c.args.layout in
    let history = c.args.history.now.events in
    let seats = c.args.seats.now in
    let lists = map (λ s. s.events.items) seats in
    let made = made_by history c.loop-k.k c.actor-actor.result c.actor-actor.ensures in
    elim c.if-has.branch [
      | then-has+else-not-is_next w ↦
          let own = w.index_of-own.result in
          let in_ : is_in layout (actor_of made.0) ≡ true = ap (is_in layout) made.2 ∙ (sym c.has.ensures ∙ w.if-has.true) in
          let is : own ≡ index_of layout (actor_of made.0) = w.index_of-own.ensures.value ∙ ap (index_of layout) (sym made.2) in
          let n = get_or c.loop-k.found own 0 in
          let low = own_low layout history lists c.loop-k.found c.loop-k.k made.0 c.loop-k.invariant.are made.3 made.1 own in_ is in
          let list = get_or-map (λ s. s.events.items) seats own w.index-seats-own.result [] (omega (arith, low, as_many_seats (λ s. s.actor) seats layout c.requires)) in
          let next = ap (λ es. slice_get es n) list ∙ (w.is_next.ensures.0 w.if-not-is_next.false ∙ made.1) in
          let more = (found_more layout history lists c.loop-k.found c.loop-k.k made.0 c.loop-k.invariant.are made.3 made.1 own in_ is (omega (arith, low, c.loop-k.invariant.places)) next) in
          record {
            places = ap length w.found-is ∙ (length-set c.loop-k.found own (n + 1) ∙ c.loop-k.invariant.places);
            are = subst (λ found. Found layout history lists found (c.loop-k.k + 1)) (sym w.found-is) more;
          }
      | else-has w ↦
          let same = passed layout history lists c.loop-k.found c.loop-k.k made.0 c.loop-k.invariant.are made.3 made.1 (ap (is_in layout) made.2 ∙ (sym c.has.ensures ∙ w.if-has.false)) in
          record {
            places = ap length w.found-is ∙ c.loop-k.invariant.places;
            are = subst (λ found. Found layout history lists found (c.loop-k.k + 1)) (sym w.found-is) same;
          }
    ]

pub first_longer-requires : goal.first_longer-requires
first_longer-requires g c = as_many_seats (λ s. s.actor) c.args.seats.now c.args.layout c.requires

pub returns : goal.returns
returns g c =
    let layout = c.args.layout in
    let history = c.args.history.now.events in
    let lists = map (λ s. s.events.items) c.args.seats.now in
    let over : length history ≤ c.loop-k.k = omega (arith, c.loop-k-test.false, c.len-k-end.ensures) in
    match_by c.first_longer.result (λ all j low. whole layout history lists c.loop-k.found c.loop-k.k c.loop-k.invariant.are over j low (all j low))
    (λ j is. (is.0, longer layout history lists c.loop-k.found c.loop-k.k c.loop-k.invariant.are over j is.0 is.1)) c.first_longer.ensures
