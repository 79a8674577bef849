use Rattle.tw_in_turn.proofs.Names.{Actor, ActorCounts, AreIdle, DoneView, End, Ends, IsAfter, IsMove, IsTurned, IsWatched, Keeps, Looked, None, Option, PoolView, actor_at, actor_count, ap, arith, false, get_or, is_in, last_look, length, looks_at, looks_within, refl, subst, sym, true, ℕ, ◌*◌, ◌+◌, ◌<◌, ◌∙◌, ◌≡◌, ◌≢◌}
use Rattle.tw_in_turn.proofs.Rounding as rounding
use Rattle.tw_in_turn.proofs.Stops.{ends_after}
use Rattle.tw_in_turn.proofs.Watching as watching
use Rattle.tw_in_turn.proofs.Watching.{with_last}
use Rattle.tw_in_turn.proofs.rounds.turn_round.Goals as goal

pub loop-index-init : goal.loop-index-init
loop-index-init g c = record {
  grown = rounding.not_grown c.args.pool.now c.requires.may;
  kept_is = c.requires.kept;
  within = omega arith;
  after = λ first rounds after. let none : (k : ℕ) → k ≡ k + 0 = λ k. omega arith in subst (λ n. IsAfter None first n c.args.pool.now) (none (rounds * actor_count c.args.pool.now.layout)) after;
  more = rounding.none_idle c.args.pool.now;
  looked = (0, refl, omega arith);
}

pub actor_at-actor-requires : goal.actor_at-actor-requires
actor_at-actor-requires g c =
    let first = c.args.pool.now in
    let now = c.loop-index.pool in
    let index = c.in-Some.index in
    let inv = c.loop-index.invariant in
    let same : now.layout ≡ first.layout = rounding.layout_same first now inv.grown in
    let low_now : index < actor_count now.layout = c.in-Some.ensures.1 in
    let low : index < actor_count first.layout = subst (λ (l : ActorCounts). index < actor_count l) same low_now in
    subst (λ (l : ActorCounts). index < actor_count l) (sym c.layout-layout.ensures) low

pub bounds-kept-index : goal.bounds-kept-index
bounds-kept-index g c =
    let low : c.in-Some.index < actor_count c.loop-index.pool.layout = c.in-Some.ensures.1 in
    omega (arith, low, c.loop-index.invariant.kept_is.long)

pub turn_one-requires-clause-actor : goal.turn_one-requires-clause-actor
turn_one-requires-clause-actor g c =
    let first = c.args.pool.now in
    let now = c.loop-index.pool in
    let index = c.in-Some.index in
    let inv = c.loop-index.invariant in
    let same : now.layout ≡ first.layout = rounding.layout_same first now inv.grown in
    let low_now : index < actor_count now.layout = c.in-Some.ensures.1 in
    let low : index < actor_count first.layout = subst (λ (l : ActorCounts). index < actor_count l) same low_now in
    subst (λ (l : ActorCounts). is_in l c.actor_at-actor.result ≡ true) (c.layout-layout.ensures ∙ sym same) c.actor_at-actor.ensures.there

pub turn_one-requires-clause-may : goal.turn_one-requires-clause-may
turn_one-requires-clause-may g c = rounding.still_may c.args.pool.now c.loop-index.pool c.requires.may c.loop-index.invariant.grown

pub turn_one-requires-clause-keeps : goal.turn_one-requires-clause-keeps
turn_one-requires-clause-keeps g c =
    let first = c.args.pool.now in
    let now = c.loop-index.pool in
    let index = c.in-Some.index in
    let inv = c.loop-index.invariant in
    let same : now.layout ≡ first.layout = rounding.layout_same first now inv.grown in
    let low_now : index < actor_count now.layout = c.in-Some.ensures.1 in
    let low : index < actor_count first.layout = subst (λ (l : ActorCounts). index < actor_count l) same low_now in
    let actor_is : c.actor_at-actor.result ≡ actor_at first.layout index = c.actor_at-actor.ensures.is ∙ ap (λ (l : ActorCounts). actor_at l index) c.layout-layout.ensures in
    let actor_now : c.actor_at-actor.result ≡ actor_at now.layout index = actor_is ∙ ap (λ (l : ActorCounts). actor_at l index) (sym same) in
    let default = c.index-kept-index.result in
    subst (λ (a : Actor). Keeps now a (get_or c.loop-index.kept index default)) (sym actor_now) (inv.kept_is.each index default low_now)

pub returns-in-Some-turn_one-clause-round : goal.returns-in-Some-turn_one-clause-round
returns-in-Some-turn_one-clause-round g c = λ rounds.
    let first = c.args.pool.now in
    let now = c.loop-index.pool in
    let index = c.in-Some.index in
    let inv = c.loop-index.invariant in
    let same : now.layout ≡ first.layout = rounding.layout_same first now inv.grown in
    let low_now : index < actor_count now.layout = c.in-Some.ensures.1 in
    let low : index < actor_count first.layout = subst (λ (l : ActorCounts). index < actor_count l) same low_now in
    let actor_is : c.actor_at-actor.result ≡ actor_at first.layout index = c.actor_at-actor.ensures.is ∙ ap (λ (l : ActorCounts). actor_at l index) c.layout-layout.ensures in
    let before = λ (start : PoolView) (rounds : ℕ) (after : IsAfter None start (rounds * actor_count first.layout) first). rounding.passed start now first.layout rounds c.loop-index.from index same c.in-Some.ensures.0 (omega (arith, low)) c.in-Some.ensures.2 (inv.after start rounds after) in
    let t = c.in-Some-turn_one.ensures.turned in
    let new = c.turn_one.new.pool in
    let end = c.in-Some-turn_one.end in
    let turns = rounds * actor_count first.layout in
    let Says = g.S.StopSignal.says in
    let denied : Says c.loop-index.stop false c.is_raised.new.self = subst (λ b. Says c.loop-index.stop b c.is_raised.new.self) c.if-is_raised.false c.is_raised.ensures in
    let seen = inv.looked in
    let watched = c.in-Some-turn_one.ensures.watched in
    let inside : index < length c.loop-index.kept = omega (arith, low_now, inv.kept_is.long) in
    let more = watching.looks_last now new c.loop-index.kept index c.turn_one.new.kept c.index-kept-index.result watched.0 inside watched.2 in (
      with_last end (turns + index),
      with_last end (seen.0 + watched.0),
      watching.last_looks Says c.args.stop.now c.loop-index.stop c.is_raised.new.self c.turn_one.new.stop seen.0 watched.0 seen.1 denied end watched.1,
      watching.last_enough end (looks_within new.history) (looks_at first c.args.kept.now) (seen.0 + watched.0) (omega (arith, seen.2, more)),
      λ start after. ends_after None start (turns + index) end new
          (rounding.the_last start now new first.layout rounds index t.answer (Ends end new) same low (before start rounds after) (subst (λ (a : Actor). IsMove now a t.answer new) actor_is t.move) t.comes),
    )

pub returns-in-Some-turn_one-clause-grown : goal.returns-in-Some-turn_one-clause-grown
returns-in-Some-turn_one-clause-grown g c = rounding.grown_twice c.args.pool.now c.loop-index.pool c.turn_one.new.pool c.loop-index.invariant.grown c.in-Some-turn_one.ensures.turned.grown

pub loop-index-preserved : goal.loop-index-preserved
loop-index-preserved g c =
    let first = c.args.pool.now in
    let now = c.loop-index.pool in
    let index = c.in-Some.index in
    let inv = c.loop-index.invariant in
    let same : now.layout ≡ first.layout = rounding.layout_same first now inv.grown in
    let low_now : index < actor_count now.layout = c.in-Some.ensures.1 in
    let low : index < actor_count first.layout = subst (λ (l : ActorCounts). index < actor_count l) same low_now in
    let actor_is : c.actor_at-actor.result ≡ actor_at first.layout index = c.actor_at-actor.ensures.is ∙ ap (λ (l : ActorCounts). actor_at l index) c.layout-layout.ensures in
    let actor_now : c.actor_at-actor.result ≡ actor_at now.layout index = actor_is ∙ ap (λ (l : ActorCounts). actor_at l index) (sym same) in
    let before = λ (start : PoolView) (rounds : ℕ) (after : IsAfter None start (rounds * actor_count first.layout) first). rounding.passed start now first.layout rounds c.loop-index.from index same c.in-Some.ensures.0 (omega (arith, low)) c.in-Some.ensures.2 (inv.after start rounds after) in
    let new = c.turn_one.new.pool in
    let t = subst (λ (o : Option End). IsTurned now c.actor_at-actor.result new c.turn_one.new.kept o) c.in_default-turn_one.is c.turn_one.ensures.turned in
    let on = t.comes.0 in
    let more = t.more on in
    let Says = g.S.StopSignal.says in
    let denied : Says c.loop-index.stop false c.is_raised.new.self = subst (λ b. Says c.loop-index.stop b c.is_raised.new.self) c.if-is_raised.false c.is_raised.ensures in
    let seen = inv.looked in
    let watched = subst (λ (o : Option End). IsWatched (Looked Says c.is_raised.new.self c.turn_one.new.stop) now (get_or c.loop-index.kept index c.index-kept-index.result) new c.turn_one.new.kept o) c.in_default-turn_one.is c.turn_one.ensures.watched in
    let inside : index < length c.loop-index.kept = omega (arith, low_now, inv.kept_is.long) in
    let again = watching.looks_again now new c.loop-index.kept index c.turn_one.new.kept c.index-kept-index.result watched.0 inside watched.2 in
    record {
      grown = rounding.grown_twice first now new inv.grown t.grown;
      kept_is = rounding.kept_again now new c.loop-index.kept index c.turn_one.new.kept (rounding.layout_same now new t.grown) low_now inv.kept_is (subst (λ (a : Actor). Keeps new a c.turn_one.new.kept) actor_now t.comes.1)
          (subst (λ (a : Actor). (other : Actor) (its : Option DoneView) → other ≢ a → Keeps now other its → Keeps new other its) actor_now t.others);
      within = omega (arith, low);
      after = λ start rounds after. rounding.one_more start now new first.layout rounds index t.answer same low (before start rounds after) (subst (λ (a : Actor). IsMove now a t.answer new) actor_is t.move) on;
      more = rounding.more_again first now new index (rounding.still_idle first now c.loop-index.from index c.in-Some.ensures.2 inv.more) (subst (λ (a : Actor). rounding.OneMore now new a) actor_now more);
      looked = (
        seen.0 + 1 + watched.0,
        watching.more_noes_again Says c.args.stop.now c.loop-index.stop c.is_raised.new.self c.turn_one.new.stop seen.0 watched.0 seen.1 denied watched.1,
        omega (arith, seen.2, again),
      );
    }

pub returns-clause-round : goal.returns-clause-round
returns-clause-round g c = λ rounds.
    let first = c.args.pool.now in
    let now = c.loop-index.pool in
    let inv = c.loop-index.invariant in
    let same : now.layout ≡ first.layout = rounding.layout_same first now inv.grown in
    let all = ap actor_count (sym same) in
    let idle = subst (λ n. AreIdle now c.loop-index.from n) (ap actor_count same) c.in_default.ensures in
    let may = rounding.still_may first now c.requires.may inv.grown in (
      record {
        more = rounding.round_grows first now (actor_count first.layout) may all (rounding.still_idle first now c.loop-index.from (actor_count first.layout) idle inv.more);
        kept_is = inv.kept_is;
        after = λ start after. rounding.whole_round start now rounds (actor_count first.layout) (actor_count first.layout) refl
            (rounding.passed start now first.layout rounds c.loop-index.from (actor_count first.layout) same inv.within (omega arith) idle (inv.after start rounds after));
      },
      inv.looked.0,
      inv.looked.1,
      inv.looked.2,
    )

pub returns-then-is_raised-clause-round : goal.returns-then-is_raised-clause-round
returns-then-is_raised-clause-round g c = λ rounds.
    let first = c.args.pool.now in
    let now = c.loop-index.pool in
    let index = c.in-Some.index in
    let inv = c.loop-index.invariant in
    let same : now.layout ≡ first.layout = rounding.layout_same first now inv.grown in
    let low_now : index < actor_count now.layout = c.in-Some.ensures.1 in
    let low : index < actor_count first.layout = subst (λ (l : ActorCounts). index < actor_count l) same low_now in
    let before = λ (start : PoolView) (rounds : ℕ) (after : IsAfter None start (rounds * actor_count first.layout) first). rounding.passed start now first.layout rounds c.loop-index.from index same c.in-Some.ensures.0 (omega (arith, low)) c.in-Some.ensures.2 (inv.after start rounds after) in
    let Says = g.S.StopSignal.says in
    let seen = inv.looked in
    let yes : Says c.loop-index.stop true c.is_raised.new.self = subst (λ b. Says c.loop-index.stop b c.is_raised.new.self) c.if-is_raised.true c.is_raised.ensures in (
      rounds * actor_count first.layout + index,
      seen.0,
      last_look Says c.args.stop.now c.loop-index.stop c.is_raised.new.self seen.0 true seen.1 yes,
      watching.without_kept now c.loop-index.kept (looks_at first c.args.kept.now) seen.0 seen.2,
      λ start after. (before start rounds after, tt),
    )
