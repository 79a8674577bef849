use Rattle.tw_in_turn.proofs.Names.{Actor, DoneView, End, IsAfter, IsIdle, IsTurned, IsWatched, Keeps, Looked, MayTurn, Option, PoolView, Some, actor_count, ap, arith, false, get_or, last_look, length, looks_at, looks_within, refl, subst, sym, true, ◌%◌, ◌+◌, ◌<◌, ◌∙◌, ◌≡◌, ◌≢◌}
use Rattle.tw_in_turn.proofs.Drawing as drawing
use Rattle.tw_in_turn.proofs.Rounding as rounding
use Rattle.tw_in_turn.proofs.Stops.{ends_after}
use Rattle.tw_in_turn.proofs.Watching as watching
use Rattle.tw_in_turn.proofs.Watching.{with_last}
use Rattle.tw_in_turn.proofs.rounds.turn_drawn.Goals as goal

pub returns-in-Some-clause-round : goal.returns-in-Some-clause-round
returns-in-Some-clause-round g c =
    let now = c.loop-skipped.pool in
    let inv = c.loop-skipped.invariant in
    let new = c.turn_one.new.pool in
    let actor = c.actor_at-actor.result in
    let t = c.in-Some.ensures.turned in
    let end = c.in-Some.end in
    let same = c.layout-layout.ensures ∙ sym (ap (λ (p : PoolView). p.layout) inv.same) in
    let low = drawing.index_inside c.args.seed c.args.steps now c.layout-layout.result c.actor_count-count.result c.place_for-first.result c.loop-skipped.skipped actor same c.actor_count-count.ensures.is c.place_for-first.ensures.place c.actor_at-actor.ensures.is c.place_for-first.ensures.inside in
    let Says = g.S.StopSignal.says in
    let denied : Says c.loop-skipped.stop false c.is_raised.new.self = subst (λ b. Says c.loop-skipped.stop b c.is_raised.new.self) c.if-is_raised.false c.is_raised.ensures in
    let seen = inv.looked in
    let watched = c.in-Some.ensures.watched in
    let more = watching.looks_last now new c.loop-skipped.kept _ c.turn_one.new.kept _ watched.0 (omega (arith, low, inv.kept_is.long)) watched.2 in (
      with_last end c.args.steps,
      with_last end (seen.0 + watched.0),
      watching.last_looks Says c.args.stop.now c.loop-skipped.stop c.is_raised.new.self c.turn_one.new.stop seen.0 watched.0 seen.1 denied end watched.1,
      watching.last_enough end (looks_within new.history) (looks_at c.args.pool.now c.args.kept.now) (seen.0 + watched.0) (omega (arith, seen.2, more)),
      λ start after. ends_after (Some c.args.seed) start c.args.steps end new (
        record {
          turns = c.args.steps;
          before = now;
          after = subst (λ (p : PoolView). IsAfter (Some c.args.seed) start c.args.steps p) (sym inv.same) after;
          actor = actor;
          next = drawing.drawn_at c.args.seed c.args.steps now c.layout-layout.result c.actor_count-count.result c.place_for-first.result c.loop-skipped.skipped actor same c.actor_count-count.ensures.is
              c.place_for-first.ensures.place c.actor_at-actor.ensures.is inv.idle (drawing.busy_at_end end now new actor t.answer t.move t.comes);
          answer = t.answer;
          last = t.move;
          is = t.comes;
        },
        refl,
      ),
    )

pub returns-then-is_raised-clause-round : goal.returns-then-is_raised-clause-round
returns-then-is_raised-clause-round g c =
    let Says = g.S.StopSignal.says in
    let inv = c.loop-skipped.invariant in
    let seen = inv.looked in
    let yes : Says c.loop-skipped.stop true c.is_raised.new.self = subst (λ b. Says c.loop-skipped.stop b c.is_raised.new.self) c.if-is_raised.true c.is_raised.ensures in (
      c.args.steps,
      seen.0,
      last_look Says c.args.stop.now c.loop-skipped.stop c.is_raised.new.self seen.0 true seen.1 yes,
      watching.without_kept c.loop-skipped.pool c.loop-skipped.kept (looks_at c.args.pool.now c.args.kept.now) seen.0 seen.2,
      λ start after. (subst (λ (p : PoolView). IsAfter (Some c.args.seed) start c.args.steps p) (sym inv.same) after, tt),
    )

pub returns-then-events-len-clause-round : goal.returns-then-events-len-clause-round
returns-then-events-len-clause-round g c =
    let first = c.args.pool.now in
    let now = c.loop-skipped.pool in
    let inv = c.loop-skipped.invariant in
    let new = c.turn_one.new.pool in
    let actor = c.actor_at-actor.result in
    let t = subst (λ (o : Option End). IsTurned now actor new c.turn_one.new.kept o) c.in_default.is c.turn_one.ensures.turned in
    let same = c.layout-layout.ensures ∙ sym (ap (λ (p : PoolView). p.layout) inv.same) in
    let many = c.actor_count-count.ensures.is in
    let at_place = c.place_for-first.ensures.place in
    let before : c.len-events.result ≡ length first.history = c.len-events.ensures ∙ ap (λ es. length es) c.history.ensures.events in
    let after : c.len.result ≡ length new.history = c.len.ensures ∙ ap (λ es. length es) c.history-in-loop-skipped.ensures.events in
    let more : length first.history < length new.history = omega (arith, before, after, c.if-events-len.true) in
    let more_now : length now.history < length new.history = subst (λ (p : PoolView). length p.history < length new.history) (sym inv.same) more in
    let actor_now = drawing.at_index c.args.seed c.args.steps now c.layout-layout.result c.actor_count-count.result c.place_for-first.result c.loop-skipped.skipped actor same many at_place c.actor_at-actor.ensures.is in
    let low = drawing.index_inside c.args.seed c.args.steps now c.layout-layout.result c.actor_count-count.result c.place_for-first.result c.loop-skipped.skipped actor same many at_place c.actor_at-actor.ensures.is c.place_for-first.ensures.inside in
    let drawn = drawing.drawn_at c.args.seed c.args.steps now c.layout-layout.result c.actor_count-count.result c.place_for-first.result c.loop-skipped.skipped actor same many at_place c.actor_at-actor.ensures.is inv.idle
    (drawing.busy_if_more now new actor t.answer t.move more_now) in
    let Says = g.S.StopSignal.says in
    let denied : Says c.loop-skipped.stop false c.is_raised.new.self = subst (λ b. Says c.loop-skipped.stop b c.is_raised.new.self) c.if-is_raised.false c.is_raised.ensures in
    let seen = inv.looked in
    let given = get_or c.loop-skipped.kept ((c.place_for-first.result + c.loop-skipped.skipped) % c.actor_count-count.result) c.index-kept-index.result in
    let watched = subst (λ (o : Option End). IsWatched (Looked Says c.is_raised.new.self c.turn_one.new.stop) now given new c.turn_one.new.kept o) c.in_default.is c.turn_one.ensures.watched in
    let again = watching.looks_again now new c.loop-skipped.kept ((c.place_for-first.result + c.loop-skipped.skipped) % c.actor_count-count.result) c.turn_one.new.kept c.index-kept-index.result watched.0 (omega (arith, low, inv.kept_is.long)) watched.2 in (
      record {
        more = more;
        kept_is = rounding.kept_again now new c.loop-skipped.kept _ c.turn_one.new.kept (rounding.layout_same now new t.grown) low inv.kept_is (subst (λ (a : Actor). Keeps new a c.turn_one.new.kept) actor_now t.comes.1)
            (subst (λ (a : Actor). (other : Actor) (its : Option DoneView) → other ≢ a → Keeps now other its → Keeps new other its) actor_now t.others);
        after = λ start at. drawing.after_drawn c.args.seed c.args.steps start now new actor t.answer (subst (λ (p : PoolView). IsAfter (Some c.args.seed) start c.args.steps p) (sym inv.same) at) drawn t.move t.comes.0;
      },
      seen.0 + 1 + watched.0,
      watching.more_noes_again Says c.args.stop.now c.loop-skipped.stop c.is_raised.new.self c.turn_one.new.stop seen.0 watched.0 seen.1 denied watched.1,
      omega (arith, seen.2, again),
    )

pub loop-skipped-preserved : goal.loop-skipped-preserved
loop-skipped-preserved g c =
    let first = c.args.pool.now in
    let now = c.loop-skipped.pool in
    let inv = c.loop-skipped.invariant in
    let new = c.turn_one.new.pool in
    let actor = c.actor_at-actor.result in
    let t = subst (λ (o : Option End). IsTurned now actor new c.turn_one.new.kept o) c.in_default.is c.turn_one.ensures.turned in
    let same = c.layout-layout.ensures ∙ sym (ap (λ (p : PoolView). p.layout) inv.same) in
    let many = c.actor_count-count.ensures.is in
    let at_place = c.place_for-first.ensures.place in
    let before : c.len-events.result ≡ length first.history = c.len-events.ensures ∙ ap (λ es. length es) c.history.ensures.events in
    let after : c.len.result ≡ length new.history = c.len.ensures ∙ ap (λ es. length es) c.history-in-loop-skipped.ensures.events in
    let earlier : length now.history ≡ length first.history = ap (λ (p : PoolView). length p.history) inv.same in
    let still = drawing.only_idle now new actor (t.more t.comes.0) (omega (arith, before, after, earlier, c.if-events-len.false)) in
    let actor_now = drawing.at_index c.args.seed c.args.steps now c.layout-layout.result c.actor_count-count.result c.place_for-first.result c.loop-skipped.skipped actor same many at_place c.actor_at-actor.ensures.is in
    let low = drawing.index_inside c.args.seed c.args.steps now c.layout-layout.result c.actor_count-count.result c.place_for-first.result c.loop-skipped.skipped actor same many at_place c.actor_at-actor.ensures.is c.place_for-first.ensures.inside in
    let from = drawing.from_first c.args.seed c.args.steps now c.layout-layout.result c.actor_count-count.result c.place_for-first.result c.loop-skipped.skipped actor same many at_place c.actor_at-actor.ensures.is in
    let Says = g.S.StopSignal.says in
    let denied : Says c.loop-skipped.stop false c.is_raised.new.self = subst (λ b. Says c.loop-skipped.stop b c.is_raised.new.self) c.if-is_raised.false c.is_raised.ensures in
    let seen = inv.looked in
    let given = get_or c.loop-skipped.kept ((c.place_for-first.result + c.loop-skipped.skipped) % c.actor_count-count.result) c.index-kept-index.result in
    let watched = subst (λ (o : Option End). IsWatched (Looked Says c.is_raised.new.self c.turn_one.new.stop) now given new c.turn_one.new.kept o) c.in_default.is c.turn_one.ensures.watched in
    let again = watching.looks_again now new c.loop-skipped.kept ((c.place_for-first.result + c.loop-skipped.skipped) % c.actor_count-count.result) c.turn_one.new.kept c.index-kept-index.result watched.0 (omega (arith, low, inv.kept_is.long)) watched.2 in
    record {
      same = still.0 ∙ inv.same;
      kept_is = rounding.kept_again now new c.loop-skipped.kept _ c.turn_one.new.kept (rounding.layout_same now new t.grown) low inv.kept_is (subst (λ (a : Actor). Keeps new a c.turn_one.new.kept) actor_now t.comes.1)
          (subst (λ (a : Actor). (other : Actor) (its : Option DoneView) → other ≢ a → Keeps now other its → Keeps new other its) actor_now t.others);
      idle = drawing.idle_again now new c.place_for-first.result c.loop-skipped.skipped still.0 inv.idle (subst (λ (a : Actor). IsIdle now a) from still.1);
      looked = (
        seen.0 + 1 + watched.0,
        watching.more_noes_again Says c.args.stop.now c.loop-skipped.stop c.is_raised.new.self c.turn_one.new.stop seen.0 watched.0 seen.1 denied watched.1,
        omega (arith, seen.2, again),
      );
    }

pub loop-skipped-preserved-then-is_idle : goal.loop-skipped-preserved-then-is_idle
loop-skipped-preserved-then-is_idle g c =
    let now = c.loop-skipped.pool in
    let inv = c.loop-skipped.invariant in
    let same = c.layout-layout.ensures ∙ sym (ap (λ (p : PoolView). p.layout) inv.same) in
    let from = drawing.from_first c.args.seed c.args.steps now c.layout-layout.result c.actor_count-count.result c.place_for-first.result c.loop-skipped.skipped c.actor_at-actor.result same c.actor_count-count.ensures.is c.place_for-first.ensures.place c.actor_at-actor.ensures.is in
    record {
      same = inv.same;
      kept_is = inv.kept_is;
      idle = drawing.idle_again now now c.place_for-first.result c.loop-skipped.skipped refl inv.idle (subst (λ (a : Actor). IsIdle now a) from (c.if-is_idle.ensures refl));
      looked = inv.looked;
    }

pub unreachable-requires : goal.unreachable-requires
unreachable-requires g c =
    let now = c.loop-skipped.pool in
    let inv = c.loop-skipped.invariant in
    let many : c.actor_count-count.result ≡ actor_count now.layout =
    c.actor_count-count.ensures.is ∙ ap actor_count (c.layout-layout.ensures ∙ sym (ap (λ (p : PoolView). p.layout) inv.same)) in
    drawing.some_busy now c.place_for-first.result (subst (λ (p : PoolView). MayTurn p) (sym inv.same) c.requires.may) (omega (arith, many, c.place_for-first.ensures.inside))
    (λ k low. inv.idle k (omega (arith, low, many, c.loop-skipped-test.false)))
