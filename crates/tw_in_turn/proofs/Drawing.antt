-- Steps whose actors a seed draws: the first one that isn't idle, from a place on. There is one.
use Rattle.tw_in_turn.proofs.Names.{Actor, ActorCounts, Continues, End, Ends, Idle, IsAfter, IsDrawn, IsIdle, IsMove, MayTurn, Over, PoolView, Run, Some, Turn, actor_at, actor_count, actor_from, add-mod_right, add-one, ap, arith, cases_eq, cases_lt, inl, inr, length, mod-eq_of_lt, mod-lt, place_for, subst, sym, ℕ, ◌%◌, ◌+◌, ◌-◌, ◌<◌, ◌∙◌, ◌≡◌, ◌≤◌, ◌⊎◌}
use Rattle.tw_in_turn.specs.declared.rounds.End.TheVariants as end
use Rattle.tw_in_turn.proofs.Moving as moving
use Rattle.tw_in_turn.proofs.Rounding.{some_turn}

-- each index is so many after each other one
record IsReached (first index count : ℕ) : Type 0 where
  skipped : ℕ
  within : skipped < count
  is : (first + skipped) % count ≡ index

reached : (first index count : ℕ) → first < count → index < count → IsReached first index count
reached first index count inside low = elim (cases_lt index first) as (λ _. IsReached first index count) [
  | inl less ↦ record {
    skipped = index + count - first;
    within = omega (arith, less, inside);
    is = (let sum : first + (index + count - first) ≡ index + count = omega (arith, inside) in ap (λ n. n % count) sum ∙ (add-mod_right index count ∙ mod-eq_of_lt low));
  }
  | inr more ↦ record {
    skipped = index - first;
    within = omega (arith, low, more);
    is = (let sum : first + (index - first) ≡ index = omega (arith, more) in ap (λ n. n % count) sum ∙ mod-eq_of_lt low);
  }
]

-- not every actor from a place on is idle
pub some_busy : (p : PoolView) (first : ℕ) → MayTurn p → first < actor_count p.layout → ((k : ℕ) → k < actor_count p.layout → IsIdle p (actor_from p.layout first k)) → ⊥
some_busy p first may inside idle = some_turn p may (λ index low. let r = reached first index (actor_count p.layout) inside low in subst (λ n. IsIdle p (actor_at p.layout n)) r.is (idle r.skipped r.within))

no_end : (reason : End) (p : PoolView) → Ends reason p Idle → ⊥
no_end end.Over p over = let no_way : Idle ≡ Over over.0 = over.1 in cc
no_end end.NoMemory p refused = refused
no_end (end.Stopped cut) p stopped = let no_way : Idle ≡ Run stopped.0 = stopped.1 in cc

-- a step that is the last isn't an idle actor's
pub busy_at_end : (reason : End) (old new : PoolView) (actor : Actor) (answer : Turn) → IsMove old actor answer new → Ends reason new answer → IsIdle old actor → ⊥
busy_at_end reason old new actor answer m ends idle =
    no_end reason new (subst (Ends reason new) (moving.idle_answer old new actor m.given answer m.turn m.has idle).0 ends)

-- nor is one that makes an event
pub busy_if_more : (old new : PoolView) (actor : Actor) (answer : Turn) → IsMove old actor answer new → length old.history < length new.history → IsIdle old actor → ⊥
busy_if_more old new actor answer m more idle =
    let none = (moving.idle_answer old new actor m.given answer m.turn m.has idle).1 in
    let long = moving.new_length old new actor m.given answer m.turn m.has in
    let zero = ap (λ es. length es) none in
    absurd (omega (arith, more, long, zero))

-- ---- a step of the code: the layout, the number of its actors and the place are those of the pool

module _ (seed steps : ℕ) (now : PoolView) (layout : ActorCounts) (count first skipped : ℕ) (actor : Actor) (same : layout ≡ now.layout) (all : count ≡ actor_count layout)
    (at : first ≡ place_for seed steps count) (is : actor ≡ actor_at layout ((first + skipped) % count)) where
  all_now : count ≡ actor_count now.layout
  all_now = all ∙ ap actor_count same

  -- at the index of the code
  pub at_index : actor ≡ actor_at now.layout ((first + skipped) % count)
  at_index = is ∙ ap (λ (l : ActorCounts). actor_at l ((first + skipped) % count)) same

  pub from_first : actor ≡ actor_from now.layout first skipped
  from_first = at_index ∙ ap (λ n. actor_at now.layout ((first + skipped) % n)) all_now

  -- the index is one of an actor
  pub index_inside : first < count → (first + skipped) % count < actor_count now.layout
  index_inside inside = subst (λ n. (first + skipped) % count < n) all_now (mod-lt (first + skipped) (omega (arith, inside)))

  place_now : first ≡ place_for seed steps (actor_count now.layout)
  place_now = at ∙ ap (place_for seed steps) all_now

  pub drawn_at : ((k : ℕ) → k < skipped → IsIdle now (actor_from now.layout first k)) → (IsIdle now actor → ⊥) → IsDrawn seed now steps actor
  drawn_at idles busy = record {
    skipped = skipped;
    is = from_first ∙ ap (λ n. actor_from now.layout n skipped) place_now;
    idle = λ k low. subst (λ n. IsIdle now (actor_from now.layout n k)) place_now (idles k low);
    busy = busy;
  }

-- without an event more the actor was idle
pub only_idle : (now new : PoolView) (actor : Actor) → (length now.history + 1 ≤ length new.history) ⊎ ((new ≡ now) × IsIdle now actor) → length new.history ≤ length now.history → (new ≡ now) × IsIdle now actor
only_idle now new actor (inl more) few = absurd (omega (arith, more, few))
only_idle now new actor (inr still) few = still

-- one idle actor more
pub idle_again : (now new : PoolView) (first skipped : ℕ) → new ≡ now → ((k : ℕ) → k < skipped → IsIdle now (actor_from now.layout first k)) → IsIdle now (actor_from now.layout first skipped)
    → (k : ℕ) → k < skipped + 1 → IsIdle new (actor_from new.layout first k)
idle_again now new first skipped same idles last k low = subst (λ (p : PoolView). IsIdle p (actor_from p.layout first k)) (sym same) (by (cases_eq k skipped))
  where
    by : (k ≡ skipped) ⊎ ((k ≡ skipped) → ⊥) → IsIdle now (actor_from now.layout first k)
    by (inl is) = subst (λ n. IsIdle now (actor_from now.layout first n)) (sym is) last
    by (inr apart) = idles k (omega (arith, low, apart))

-- one step more
pub after_drawn : (seed steps : ℕ) (first now new : PoolView) (actor : Actor) (answer : Turn) → IsAfter (Some seed) first steps now → IsDrawn seed now steps actor → IsMove now actor answer new → Continues answer
    → IsAfter (Some seed) first (steps + 1) new
after_drawn seed steps first now new actor answer after drawn move on = subst (λ n. IsAfter (Some seed) first n new) (sym (add-one steps)) (now, actor, answer, after, drawn, move, on)
