use Rattle.tw_in_turn.proofs.Names.{ActorCounts, End, IsAfter, IsRoundResult, Looked, None, Option, Some, actor_count, arith, is_stop, looks_at, looks_within, more_looks, more_noes, refl, subst, sym, turns_in, zero-mul, ℕ, ◌+◌, ◌≡◌}
use Rattle.tw_in_turn.proofs.Rounding as rounding
use Rattle.tw_in_turn.proofs.rounds.turn_all.Goals as goal

none_yet : (seed : Option ℕ) (layout : ActorCounts) → turns_in seed layout 0 ≡ 0
none_yet None layout = zero-mul (actor_count layout)
none_yet (Some seed) layout = refl

pub loop-rounds-init : goal.loop-rounds-init
loop-rounds-init g c = record {
  grown = rounding.not_grown c.args.pool.now c.requires.may;
  kept_is = c.requires.kept;
  after = subst (λ n. IsAfter c.args.seed c.args.pool.now n c.args.pool.now) (sym (none_yet c.args.seed c.args.pool.now.layout)) refl;
  many = omega arith;
  looked = (0, refl, omega arith);
}

pub turn_next-requires-clause-may : goal.turn_next-requires-clause-may
turn_next-requires-clause-may g c = rounding.still_may c.args.pool.now c.loop-rounds.pool c.requires.may c.loop-rounds.invariant.grown

pub returns-in-Some-clause-ends : goal.returns-in-Some-clause-ends
returns-in-Some-clause-ends g c =
    let first = c.args.pool.now in
    let now = c.loop-rounds.pool in
    let inv = c.loop-rounds.invariant in
    let seed = c.args.seed in
    let same : now.layout ≡ first.layout = rounding.layout_same first now inv.grown in
    let round = c.in-Some.ensures.round in
    let seen = inv.looked in (
      round.0,
      seen.0 + round.1,
      rounding.in_all (looks_within c.turn_next.new.pool.history) (looks_at now c.loop-rounds.kept) (looks_at first c.args.kept.now) seen.0 round.1 round.3 seen.2,
      more_looks g.S.StopSignal.says c.args.stop.now c.loop-rounds.stop c.turn_next.new.stop seen.0 round.1 (is_stop c.in-Some.end) seen.1 round.2,
      round.4 first (subst (λ (l : ActorCounts). IsAfter seed first (turns_in seed l c.loop-rounds.rounds) now) (sym same) inv.after),
    )

pub returns-in-Some-clause-grown : goal.returns-in-Some-clause-grown
returns-in-Some-clause-grown g c = rounding.grown_twice c.args.pool.now c.loop-rounds.pool c.turn_next.new.pool c.loop-rounds.invariant.grown c.in-Some.ensures.grown

pub loop-rounds-preserved : goal.loop-rounds-preserved
loop-rounds-preserved g c =
    let first = c.args.pool.now in
    let now = c.loop-rounds.pool in
    let inv = c.loop-rounds.invariant in
    let seed = c.args.seed in
    let same : now.layout ≡ first.layout = rounding.layout_same first now inv.grown in
    let new = c.turn_next.new.pool in
    let around = subst (λ (o : Option End). IsRoundResult (Looked g.S.StopSignal.says c.loop-rounds.stop c.turn_next.new.stop) seed c.loop-rounds.rounds now c.loop-rounds.kept new c.turn_next.new.kept o) c.in_default.is c.turn_next.ensures.round in
    record {
      grown = rounding.grown_twice first now new inv.grown c.turn_next.ensures.grown;
      kept_is = around.0.kept_is;
      after = subst (λ (l : ActorCounts). IsAfter seed first (turns_in seed l (c.loop-rounds.rounds + 1)) new) same
          (around.0.after first (subst (λ (l : ActorCounts). IsAfter seed first (turns_in seed l c.loop-rounds.rounds) now) (sym same) inv.after));
      many = omega (arith, inv.many, around.0.more);
      looked =
          let seen = inv.looked in (
            seen.0 + around.1,
            more_noes g.S.StopSignal.says c.args.stop.now c.loop-rounds.stop c.turn_next.new.stop seen.0 around.1 seen.1 around.2,
            omega (arith, around.3, seen.2),
          );
    }

pub unreachable-requires : goal.unreachable-requires
unreachable-requires g c = omega (arith, c.loop-rounds.invariant.many, c.loop-rounds-test.false, c.loop-rounds.invariant.grown.within, c.requires.few)
