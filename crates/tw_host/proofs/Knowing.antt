-- After steps of an actor, only work that they can have made is new.
use Rattle.tw_host.proofs.Names.{Actor, ActorCounts, AreTargeted, AreWoken, Bool, Control, Engine, Event, HasNoWork, HasTargets, HaveNoWork, HaveTargets, InState, Is, IsCovered, IsKnown, IsLayout, IsMarked, IsNoTarget, Isnt, Kind, KnownBy, LacksWork, Leaf, List, PoolView, Server, State, Worker, [], actor_at, actor_count, ap, arith, bit_at, end_of, eqb-false, eqb-true, events_of, false, first_of, index_of, inl, inr, is_in, length, ltb-false, ltb-true, nat_lt, nat_tests, next_release, refl, subst, sym, true, with_events, ℕ, ◌+◌, ◌-◌, ◌<◌, ◌==◌, ◌∙◌, ◌∷◌, ◌≡◌, ◌≤◌, ◌⊎◌}
use Rattle.tw_code.specs.machine.Opening.{opening}
use Rattle.tw_host.proofs.Reported.{none_appended}
use Rattle.tw_host.proofs.Settling.{few, is_or_isnt, not_both}
use Rattle.tw_host.proofs.Unmoved.{Leaves, are_by, leaves_all, split}

-- ---- work that events of an actor don't make

abbrev MakesNone : Actor → Actor → Type 0
MakesNone (Engine n) b = ⊥
MakesNone (Server n) (Engine m) = ⊥
MakesNone (Server n) (Server m) = Unit {0}
MakesNone (Server n) (Worker m) = Unit {0}
MakesNone (Worker n) (Engine m) = Unit {0}
MakesNone (Worker n) (Server m) = ⊥
MakesNone (Worker n) (Worker m) = Unit {0}

still : (layout : ActorCounts) (a b : Actor) (s t : State) → MakesNone a b → Leaves a s t → HasNoWork layout b s → HasNoWork layout b t
still layout (Engine n) b s t none l h = absurd none
still layout (Server n) (Engine m) s t none l h = absurd none
still layout (Server n) (Server m) s t none l h = λ x has. h x (l.1 x has)
still layout (Server n) (Worker m) s t none l h = subst (IsNoTarget (Worker m)) (sym l.0) h
still layout (Worker n) (Engine m) s t none l h = (ap (next_release m) l.0 ∙ h.0, λ k x e may is. h.1 k x (l.1 k x e) may is)
still layout (Worker n) (Server m) s t none l h = absurd none
still layout (Worker n) (Worker m) s t none l h = λ k x e may is. h k x (l.1 k x e) may is

abbrev IsNoEngine : Actor → Type 0
IsNoEngine (Engine n) = ⊥
IsNoEngine (Server n) = Unit {0}
IsNoEngine (Worker n) = Unit {0}

still_targets : (kind : Kind) (a : Actor) (s t : State) → IsNoEngine a → Leaves a s t → HaveTargets kind s.tasks → HaveTargets kind t.tasks
still_targets kind (Engine n) s t none l h = absurd none
still_targets kind (Server n) s t none l h = subst (HaveTargets kind) (sym l.0) h
still_targets kind (Worker n) s t none l h = λ k x e of_kind is. h k x (l.1 k x e) of_kind is

-- ---- the actor at an index

at_engine : (layout : ActorCounts) (i : ℕ) → i < layout.engines → actor_at layout i ≡ Engine i
at_engine layout i low = let t : nat_lt i layout.engines ≡ true = grind (arith, nat_tests, low) in rw t refl

at_server : (layout : ActorCounts) (i : ℕ) → layout.engines ≤ i → i < layout.engines + layout.servers → actor_at layout i ≡ Server (i - layout.engines)
at_server layout i from to =
    let f : nat_lt i layout.engines ≡ false = grind (arith, nat_tests, from) in
    let t : nat_lt i (layout.engines + layout.servers) ≡ true = grind (arith, nat_tests, to) in
    rw (f, t) refl

at_worker : (layout : ActorCounts) (i : ℕ) → layout.engines + layout.servers ≤ i → actor_at layout i ≡ Worker (i - (layout.engines + layout.servers))
at_worker layout i from =
    let f : nat_lt i layout.engines ≡ false = grind (arith, nat_tests, from) in
    let g : nat_lt i (layout.engines + layout.servers) ≡ false = grind (arith, nat_tests, from) in
    rw (f, g) refl

-- ---- after the steps

module _ (old : PoolView) (layout : IsLayout old.layout) (targets : HasTargets old.program.program old.layout) (actor : Actor) (there : is_in old.layout actor ≡ true) (before asleep out : ℕ) (over : Bool)
    (w : AreWoken old before out over) (m : IsMarked (index_of old.layout actor) false before asleep) where
  low_of : (i : ℕ) → i < actor_count old.layout → i < 64
  low_of i low = let f = few old layout actor there in omega (arith, low, f)

  lower : (i : ℕ) → i < actor_count old.layout → Isnt before i → Isnt asleep i
  lower i low isnt = by (i == index_of old.layout actor) refl
    where
      by : (b : Bool) → (i == index_of old.layout actor) ≡ b → Isnt asleep i
      by true e = ap (bit_at asleep) (eqb-true i (index_of old.layout actor) e) ∙ m.here
      by false e = m.others i (low_of i low) (eqb-false i (index_of old.layout actor) e) ∙ isnt

  slept : (i : ℕ) → i < actor_count old.layout → Is asleep i → Is before i
  slept i low is = by (is_or_isnt before i)
    where
      by : Is before i ⊎ Isnt before i → Is before i
      by (inl h) = h
      by (inr h) = not_both asleep i is (lower i low h)

  end_low : (kind : Kind) → end_of kind old.layout ≤ actor_count old.layout
  end_low Control = omega arith
  end_low Leaf = omega arith

  -- before the steps, with the actor awake
  works : (from to : ℕ) → to ≤ actor_count old.layout → HaveNoWork old asleep from to
  works from to within i above below is = w.own i (omega arith) (omega (arith, within, below)) (slept i (omega (arith, within, below)) is)

  covered : (kind : Kind) → IsCovered old asleep out kind
  covered kind = by (w.any kind)
    where
      by : IsCovered old before out kind → IsCovered old asleep out kind
      by (inl targeted) = inl targeted
      by (inr (inl none)) = inr (inl (λ i from to. let end = end_low kind in lower i (omega (arith, to, end)) (none i from to)))
      by (inr (inr (i, from, to, isnt, in_))) = let end = end_low kind in inr (inr (i, from, to, lower i (omega (arith, to, end)) isnt, in_))

  rests : (i : ℕ) → i < actor_count old.layout → Is asleep i → Isnt out i
  rests i low is = w.rests i low (slept i low is)

  -- the actor is awake, and nothing else has changed
  pub checked_in : (before ≡ 0 → asleep ≡ 0) → AreWoken old asleep out over
  checked_in zero = record { own = works 0 (actor_count old.layout) (omega arith); any = covered; over = λ e. zero (w.over e); ended = w.ended; stops = w.stops; rests = rests }

  module _ (es : List Event) (own : events_of actor es ≡ es) where
    abbrev later : PoolView
    later = with_events old es

    -- whatever holds before the steps, and isn't changed by them
    after : (P : State → Type 0) → ((s t : State) → Leaves actor s t → P s → P t) → InState old P → InState later P
    after P same h t at =
        let u = split old.program.program old.inputs old.layout targets old.history es (opening old.program.program old.inputs) t at in
        same u.0 t (leaves_all old.program.program old.inputs old.layout targets actor old.history es u.0 t (are_by actor es own) u.1 u.2) (h u.0 u.1)

    work : (b : Actor) → MakesNone actor b → LacksWork old b → LacksWork later b
    work b none = after (HasNoWork old.layout b) (λ s t l h. still old.layout actor b s t none l h)

    work_at : (i : ℕ) (b : Actor) → actor_at old.layout i ≡ b → MakesNone actor b → LacksWork old (actor_at old.layout i) → LacksWork later (actor_at old.layout i)
    work_at i b is none h = subst (LacksWork later) (sym is) (work b none (subst (LacksWork old) is h))

    targeted : (kind : Kind) → IsNoEngine actor → AreTargeted old kind → AreTargeted later kind
    targeted kind none = after (λ s. HaveTargets kind s.tasks) (λ s t l h. still_targets kind actor s t none l h)

    covered_after : (kind : Kind) → IsNoEngine actor → IsCovered later asleep out kind
    covered_after kind none = by (covered kind)
      where
        by : IsCovered old asleep out kind → IsCovered later asleep out kind
        by (inl h) = inl (targeted kind none h)
        by (inr h) = inr h

  by_kind : (a : Actor) → a ≡ actor → (es : List Event) → events_of actor es ≡ es → KnownBy (with_events old es) asleep out a
  by_kind (Engine n) same es own = tt
  by_kind (Server n) same es own = (works_after, covered_after es own Leaf (subst IsNoEngine same tt))
    where
      works_after : HaveNoWork (with_events old es) asleep old.layout.engines (actor_count old.layout)
      works_after i from to is = by (nat_lt i (old.layout.engines + old.layout.servers)) refl
        where
          before_ : LacksWork old (actor_at old.layout i)
          before_ = works old.layout.engines (actor_count old.layout) (omega arith) i from to is

          by : (b : Bool) → nat_lt i (old.layout.engines + old.layout.servers) ≡ b → LacksWork (with_events old es) (actor_at old.layout i)
          by true e = work_at es own i _ (at_server old.layout i from (ltb-true i (old.layout.engines + old.layout.servers) e)) (subst (λ (a : Actor). MakesNone a (Server (i - old.layout.engines))) same tt) before_
          by false e = work_at es own i _ (at_worker old.layout i (ltb-false i (old.layout.engines + old.layout.servers) e)) (subst (λ (a : Actor). MakesNone a (Worker (i - (old.layout.engines + old.layout.servers)))) same tt) before_
  by_kind (Worker n) same es own = (
    (λ i from to is. work_at es own i (Engine i) (at_engine old.layout i to) (subst (λ (a : Actor). MakesNone a (Engine i)) same tt) (works 0 old.layout.engines (omega arith) i from to is)),
    (λ i from to is. work_at es own i _ (at_worker old.layout i from) (subst (λ (a : Actor). MakesNone a (Worker (i - (old.layout.engines + old.layout.servers)))) same tt)
        (works (old.layout.engines + old.layout.servers) (actor_count old.layout) (omega arith) i from to is)),
    (λ kind. covered_after es own kind (subst IsNoEngine same tt)),
  )

  unchanged : (es : List Event) → length es ≡ 0 → HaveNoWork (with_events old es) asleep 0 (actor_count old.layout) × ((kind : Kind) → IsCovered (with_events old es) asleep out kind)
  unchanged [] none =
      subst (λ (p : PoolView). HaveNoWork p asleep 0 (actor_count p.layout) × ((kind : Kind) → IsCovered p asleep out kind)) (sym (none_appended old)) (works 0 (actor_count old.layout) (omega arith), covered)
  unchanged (e ∷ es) none = absurd (omega (arith, none))

  pub known : (new : PoolView) (es : List Event) → new ≡ with_events old es → events_of actor es ≡ es → (events : ℕ) → events ≡ length es → IsKnown new asleep out actor events
  known new es is own events long =
      subst (λ (p : PoolView). IsKnown p asleep out actor events) (sym is) (record { unchanged = λ none. unchanged es (sym long ∙ none); by_actor = by_kind actor refl es own; rests = rests })
