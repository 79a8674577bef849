use Rattle.tw_in_turn.proofs.Names.{DoneView, Keeps, Option, actor_at, actor_count, arith, length, subst, sym, ◌<◌, ◌≡◌}
use Rattle.tw_in_turn.proofs.Opening.{keeps_nothing}
use Rattle.tw_in_turn.proofs.Watching.{none_owed}
use Rattle.tw_in_turn.proofs.run.nothing_kept.Goals as goal

pub returns-clause-kept : goal.returns-clause-kept
returns-clause-kept c = λ p o.
    let kept = c.loop.kept.items in
    let long : length kept ≡ actor_count p.layout = omega (arith, c.loop.kept.ok.0, c.loop.invariant.0, c.loop-test.false, c.loop.auto.counter-end, o.count_is) in
    record {
      each = λ k d low.
          let inside : k < length kept = omega (arith, low, long) in
          subst (λ (given : Option DoneView). Keeps p (actor_at p.layout k) given) (sym (c.loop.invariant.1 k d inside)) (keeps_nothing p o.first (actor_at p.layout k));
      long = long;
    }

pub returns-clause-nothing : goal.returns-clause-nothing
returns-clause-nothing c = none_owed c.loop.kept.items c.loop.invariant.1
