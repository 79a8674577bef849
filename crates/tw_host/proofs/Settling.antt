-- After sleepers were woken, the invariant holds again.
use Rattle.tw_host.proofs.Names.{Actor, AreTargeted, AreWoken, Bool, Control, Covers, Engine, HasCleared, HaveNoWork, Is, IsCleared, IsCovered, IsKnown, IsLayout, IsMarked, IsOver, Isnt, Kind, KnownBy, LacksWork, Leaf, PoolView, Server, TakesNone, Turn, Wakes, WakesAfter, Worker, actor_at, actor_count, ap, arith, bit_at, bit_at-lt, bit_at-zero, end_of, eqb-false, eqb-true, false, first_of, has_job, if◌then◌else◌, index_of, inl, inr, is_idle, is_in, is_over_turn, ltb-false, ltb-true, nat_lt, refl, subst, suc, sym, true, zero, ℕ, ◌+◌, ◌<◌, ◌==◌, ◌||◌, ◌∙◌, ◌≡◌, ◌≢◌, ◌≤◌, ◌⊎◌}
use Rattle.tw_pool.specs.declared.answer.Turn.TheVariants as turn
use Rattle.tw_host.proofs.Comparing.{index_back, index_low}

pub is_or_isnt : (bits i : ℕ) → Is bits i ⊎ Isnt bits i
is_or_isnt bits i = by (bit_at bits i) refl
  where
    by : (n : ℕ) → bit_at bits i ≡ n → Is bits i ⊎ Isnt bits i
    by zero e = inr e
    by (suc zero) e = inl e
    by (suc (suc n)) e = let low = bit_at-lt bits i in absurd (omega (arith, low, e))

pub not_both : {A : Type 0} (bits i : ℕ) → Is bits i → Isnt bits i → A
not_both bits i is isnt = absurd (omega (arith, is, isnt))

pub none_of_zero : {A : Type 0} (bits i : ℕ) → bits ≡ 0 → Is bits i → A
none_of_zero bits i none is = not_both bits i is (ap (λ (n : ℕ). bit_at n i) none ∙ bit_at-zero i)

pub idle_no_job : (answer : Turn) → is_idle answer ≡ true → has_job answer ≡ false
idle_no_job (turn.Over closing) is = refl
idle_no_job (turn.Foreign done) is = refl
idle_no_job turn.Owed is = refl
idle_no_job (turn.NoMemory given) is = refl
idle_no_job (turn.Run job) is = cc
idle_no_job turn.Ended is = refl
idle_no_job turn.Went is = refl
idle_no_job turn.Idle is = refl

pub not_over : (answer : Turn) (over : Bool) → over ≡ false → is_idle answer ≡ true → (over || is_over_turn answer) ≡ false
not_over (turn.Over closing) over e is = cc
not_over (turn.Foreign done) over e is = rw e refl
not_over turn.Owed over e is = rw e refl
not_over (turn.NoMemory given) over e is = rw e refl
not_over (turn.Run job) over e is = rw e refl
not_over turn.Ended over e is = rw e refl
not_over turn.Went over e is = rw e refl
not_over turn.Idle over e is = rw e refl

pub over_if : (p : PoolView) (over says : Bool) → (over ≡ true → IsOver p) → (says ≡ true → IsOver p) → (over || says) ≡ true → IsOver p
over_if p true says h k is = h refl
over_if p false says h k is = k is

-- nobody sleeps
pub all_awake : (p : PoolView) (asleep out : ℕ) (over : Bool) → asleep ≡ 0 → (over ≡ true → IsOver p) → (p.stopped ≡ true → over ≡ true) → AreWoken p asleep out over
all_awake p asleep out over none ended stops = record {
  own = λ i from to is. none_of_zero asleep i none is;
  any = λ kind. inr (inl (λ i from to. ap (λ (n : ℕ). bit_at n i) none ∙ bit_at-zero i));
  over = λ e. none;
  ended = ended;
  stops = stops;
  rests = λ i low is. none_of_zero asleep i none is;
}

module _ (p : PoolView) (layout : IsLayout p.layout) (actor : Actor) (there : is_in p.layout actor ≡ true) where
  abbrev pub own : ℕ
  own = index_of p.layout actor

  pub few : actor_count p.layout < 64
  few = omega (arith, layout.few_engines, layout.few_servers, layout.few_workers)

  pub own_low : own < actor_count p.layout
  own_low = index_low p.layout actor there

  end_low : (kind : Kind) → end_of kind p.layout ≤ actor_count p.layout
  end_low Control = omega arith
  end_low Leaf = omega arith

  -- an index of the actors of a kind that is the actor's own
  own_kind : (a : Actor) (kind : Kind) → is_in p.layout a ≡ true → first_of kind p.layout ≤ index_of p.layout a → index_of p.layout a < end_of kind p.layout → TakesNone p a → AreTargeted p kind
  own_kind (Engine n) Control is from to none = none
  own_kind (Engine n) Leaf is from to none = let low = ltb-true n p.layout.engines is in absurd (omega (arith, low, from))
  own_kind (Server n) Control is from to none = absurd (omega (arith, to))
  own_kind (Server n) Leaf is from to none = let low = ltb-true n p.layout.servers is in absurd (omega (arith, low, from))
  own_kind (Worker n) Control is from to none = absurd (omega (arith, to))
  own_kind (Worker n) Leaf is from to none = none

  -- a server's index is of no kind, and a worker's isn't an engine's
  server_apart : (n : ℕ) → is_in p.layout (Server n) ≡ true → (i : ℕ) → p.layout.engines + p.layout.servers ≤ i → i ≢ index_of p.layout (Server n)
  server_apart n is i from same = let low = ltb-true n p.layout.servers is in omega (arith, low, from, same)

  worker_apart : (n i : ℕ) → i < p.layout.engines → i ≢ index_of p.layout (Worker n)
  worker_apart n i to same = omega (arith, to, same)

  module _ (asleep out asleep1 out1 asleep2 due events : ℕ) (over job idle : Bool) (idle_job : idle ≡ true → job ≡ false) (awake : Isnt asleep own) (k : IsKnown p asleep out actor events) (o : IsMarked own job out out1)
      (w : WakesAfter p asleep out1 over due actor events job) (slept : idle ≡ true → IsMarked own true asleep asleep1) (not_slept : idle ≡ false → asleep1 ≡ asleep) (z : IsCleared due asleep1 asleep2)
      (when_idle : idle ≡ true → (over ≡ false) × LacksWork p actor × TakesNone p actor) where
    -- ---- bits

    others : (i : ℕ) → i < 64 → i ≢ own → bit_at asleep1 i ≡ bit_at asleep i
    others i low other = by idle refl
      where
        by : (b : Bool) → idle ≡ b → bit_at asleep1 i ≡ bit_at asleep i
        by true e = (slept e).others i low other
        by false e = ap (λ (n : ℕ). bit_at n i) (not_slept e)

    was : (i : ℕ) → i < 64 → Is asleep2 i → Isnt due i × Is asleep1 i
    was i low is = by (is_or_isnt due i)
      where
        by : Is due i ⊎ Isnt due i → Isnt due i × Is asleep1 i
        by (inl h) = not_both asleep2 i is (z.gone i low h)
        by (inr h) = (h, sym (z.others i low h) ∙ is)

    before : (i : ℕ) → i < 64 → Is asleep1 i → Is asleep i ⊎ ((i ≡ own) × (idle ≡ true))
    before i low is = by (i == own) idle refl refl
      where
        by : (b c : Bool) → (i == own) ≡ b → idle ≡ c → Is asleep i ⊎ ((i ≡ own) × (idle ≡ true))
        by true true e f = inr (eqb-true i own e, f)
        by true false e f = inl (ap (λ (n : ℕ). bit_at n i) (sym (not_slept f)) ∙ is)
        by false c e f = inl (sym (others i low (eqb-false i own e)) ∙ is)

    lower : (i : ℕ) → i < 64 → (i ≢ own) ⊎ (idle ≡ false) → Isnt asleep i → Isnt asleep2 i
    lower i low free isnt = by (is_or_isnt due i)
      where
        same : (i ≢ own) ⊎ (idle ≡ false) → bit_at asleep1 i ≡ bit_at asleep i
        same (inl other) = others i low other
        same (inr e) = ap (λ (n : ℕ). bit_at n i) (not_slept e)

        by : Is due i ⊎ Isnt due i → Isnt asleep2 i
        by (inl h) = z.gone i low h
        by (inr h) = z.others i low h ∙ (same free ∙ isnt)

    own_out : job ≡ false → Isnt out1 own
    own_out e = o.here ∙ ap (λ (b : Bool). if b then 1 else 0) e

    out_low : (i : ℕ) → i < 64 → (i ≢ own) ⊎ (job ≡ false) → Isnt out i → Isnt out1 i
    out_low i low (inl other) isnt = o.others i low other ∙ isnt
    out_low i low (inr e) isnt = by (i == own) refl
      where
        by : (b : Bool) → (i == own) ≡ b → Isnt out1 i
        by true f = ap (bit_at out1) (eqb-true i own f) ∙ own_out e
        by false f = o.others i low (eqb-false i own f) ∙ isnt

    not_own : (i : ℕ) → Is asleep i → i ≢ own
    not_own i is same = not_both asleep i is (ap (bit_at asleep) same ∙ awake)

    not_idle : over ≡ true → idle ≡ false
    not_idle e = by idle refl
      where
        by : (b : Bool) → idle ≡ b → idle ≡ false
        by true f = let no : true ≡ false = sym e ∙ (when_idle f).0 in cc
        by false f = f

    all_gone : over ≡ true → due ≡ asleep → asleep2 ≡ 0
    all_gone e is = z.all (inl (is ∙ sym (not_slept (not_idle e))))

    -- ---- work of one's own

    wakes_own : (a : Actor) → KnownBy p asleep out a → Wakes p asleep out1 due a job → (i : ℕ) → i < actor_count p.layout → Is asleep i → Isnt due i → LacksWork p (actor_at p.layout i)
    wakes_own (Engine n) known wakes i low is isnt = by (nat_lt i p.layout.engines) (nat_lt i (p.layout.engines + p.layout.servers)) refl refl
      where
        by : (b c : Bool) → nat_lt i p.layout.engines ≡ b → nat_lt i (p.layout.engines + p.layout.servers) ≡ c → LacksWork p (actor_at p.layout i)
        by true c e f = wakes.0.0 i (omega arith) (ltb-true i p.layout.engines e) is isnt
        by false true e f = wakes.1 i (ltb-false i p.layout.engines e) (ltb-true i (p.layout.engines + p.layout.servers) f) is isnt
        by false false e f = wakes.2.0 i (ltb-false i (p.layout.engines + p.layout.servers) f) low is isnt
    wakes_own (Server n) known wakes i low is isnt = by (nat_lt i p.layout.engines) refl
      where
        by : (b : Bool) → nat_lt i p.layout.engines ≡ b → LacksWork p (actor_at p.layout i)
        by true e = wakes.0 i (omega arith) (ltb-true i p.layout.engines e) is isnt
        by false e = known.0 i (ltb-false i p.layout.engines e) low is
    wakes_own (Worker n) known wakes i low is isnt = by (nat_lt i p.layout.engines) (nat_lt i (p.layout.engines + p.layout.servers)) refl refl
      where
        by : (b c : Bool) → nat_lt i p.layout.engines ≡ b → nat_lt i (p.layout.engines + p.layout.servers) ≡ c → LacksWork p (actor_at p.layout i)
        by true c e f = known.0 i (omega arith) (ltb-true i p.layout.engines e) is
        by false true e f = wakes.0 i (ltb-false i p.layout.engines e) (ltb-true i (p.layout.engines + p.layout.servers) f) is isnt
        by false false e f = known.1 i (ltb-false i (p.layout.engines + p.layout.servers) f) low is

    lacks : (i : ℕ) → i < actor_count p.layout → Is asleep i → Isnt due i → LacksWork p (actor_at p.layout i)
    lacks i low is isnt = by w
      where
        by : WakesAfter p asleep out1 over due actor events job → LacksWork p (actor_at p.layout i)
        by (inl none) = none_of_zero asleep i none is
        by (inr (inl h)) = not_both due i (ap (λ (n : ℕ). bit_at n i) h.1 ∙ is) isnt
        by (inr (inr (e, inl h))) = (k.unchanged h.0).0 i (omega arith) low is
        by (inr (inr (e, inr wakes))) = wakes_own actor k.by_actor wakes i low is isnt

    -- ---- tasks without targets

    range_low : (kind : Kind) (i : ℕ) → i < end_of kind p.layout → i < 64
    range_low kind i to = let low = end_low kind in omega (arith, few, low, to)

    free : (kind : Kind) → AreTargeted p kind ⊎ ((i : ℕ) → first_of kind p.layout ≤ i → i < end_of kind p.layout → Isnt asleep i → Isnt asleep2 i)
    free kind = by idle (nat_lt own (first_of kind p.layout)) (nat_lt own (end_of kind p.layout)) refl refl refl
      where
        by : (b c d : Bool) → idle ≡ b → nat_lt own (first_of kind p.layout) ≡ c → nat_lt own (end_of kind p.layout) ≡ d
            → AreTargeted p kind ⊎ ((i : ℕ) → first_of kind p.layout ≤ i → i < end_of kind p.layout → Isnt asleep i → Isnt asleep2 i)
        by false c d e f g = inr (λ i from to isnt. lower i (range_low kind i to) (inr e) isnt)
        by true true d e f g = inr (λ i from to isnt. lower i (range_low kind i to) (inl (λ same. let low = ltb-true own (first_of kind p.layout) f in omega (arith, low, from, same))) isnt)
        by true false false e f g = inr (λ i from to isnt. lower i (range_low kind i to) (inl (λ same. let high = ltb-false own (end_of kind p.layout) g in omega (arith, high, to, same))) isnt)
        by true false true e f g = inl (own_kind actor kind there (ltb-false own (first_of kind p.layout) f) (ltb-true own (end_of kind p.layout) g) (when_idle e).2)

    -- with the jobs that run now
    with_out : (kind : Kind) → ((i : ℕ) → first_of kind p.layout ≤ i → i < end_of kind p.layout → (i ≢ own) ⊎ (job ≡ false)) → IsCovered p asleep out kind → IsCovered p asleep out1 kind
    with_out kind apart (inl targeted) = inl targeted
    with_out kind apart (inr (inl none)) = inr (inl none)
    with_out kind apart (inr (inr (i, from, to, isnt, in_))) = inr (inr (i, from, to, isnt, out_low i (range_low kind i to) (apart i from to) in_))

    wakes_any : (a : Actor) → a ≡ actor → KnownBy p asleep out a → Wakes p asleep out1 due a job → (kind : Kind) → Covers p asleep out1 due kind
    wakes_any (Engine n) same known wakes Control = wakes.0.1
    wakes_any (Engine n) same known wakes Leaf = wakes.2.1
    wakes_any (Server n) same known wakes Control = wakes.1
    wakes_any (Server n) same known wakes Leaf =
        inl (with_out Leaf (λ i from to. inl (λ e. server_apart n (ap (is_in p.layout) same ∙ there) i from (e ∙ ap (index_of p.layout) (sym same)))) known.1)
    wakes_any (Worker n) same known wakes Control = inl (with_out Control (λ i from to. inl (λ e. worker_apart n i to (e ∙ ap (index_of p.layout) (sym same)))) (known.2 Control))
    wakes_any (Worker n) same known wakes Leaf = by job refl
      where
        by : (b : Bool) → job ≡ b → Covers p asleep out1 due Leaf
        by true e = (wakes.1 e).1
        by false e = inl (with_out Leaf (λ i from to. inr e) (known.2 Leaf))

    covers : (kind : Kind) → Covers p asleep out1 due kind ⊎ (asleep2 ≡ 0)
    covers kind = by w
      where
        by : WakesAfter p asleep out1 over due actor events job → Covers p asleep out1 due kind ⊎ (asleep2 ≡ 0)
        by (inl none) = inl (inl (inr (inl (λ i from to. ap (λ (n : ℕ). bit_at n i) none ∙ bit_at-zero i))))
        by (inr (inl h)) = inr (all_gone h.0 h.1)
        by (inr (inr (e, inl h))) = inl (inl (with_out kind (λ i from to. inr h.1) ((k.unchanged h.0).1 kind)))
        by (inr (inr (e, inr wakes))) = inl (wakes_any actor refl k.by_actor wakes kind)

    covered : (kind : Kind) → IsCovered p asleep2 out1 kind
    covered kind = by (covers kind) (free kind)
      where
        by : Covers p asleep out1 due kind ⊎ (asleep2 ≡ 0) → AreTargeted p kind ⊎ ((i : ℕ) → first_of kind p.layout ≤ i → i < end_of kind p.layout → Isnt asleep i → Isnt asleep2 i) → IsCovered p asleep2 out1 kind
        by (inr none) f = inr (inl (λ i from to. ap (λ (n : ℕ). bit_at n i) none ∙ bit_at-zero i))
        by (inl c) (inl targeted) = inl targeted
        by (inl (inl (inl targeted))) (inr low) = inl targeted
        by (inl (inl (inr (inl none)))) (inr low) = inr (inl (λ i from to. low i from to (none i from to)))
        by (inl (inl (inr (inr (i, from, to, isnt, in_))))) (inr low) = inr (inr (i, from, to, low i from to isnt, in_))
        by (inl (inr (i, from, to, is, is_due))) (inr low) =
            let end = end_low kind in
            let under = range_low kind i to in
            inr (inr (i, from, to, z.gone i under is_due, out_low i under (inl (not_own i is)) (k.rests i (omega (arith, to, end)) is)))

    -- ---- all of it

    none_asleep : over ≡ true → asleep2 ≡ 0
    none_asleep e = by w
      where
        by : WakesAfter p asleep out1 over due actor events job → asleep2 ≡ 0
        by (inl none) = z.all (inr (not_slept (not_idle e) ∙ none))
        by (inr (inl h)) = all_gone e h.1
        by (inr (inr h)) = let no : true ≡ false = sym e ∙ h.0 in cc

    rests : (i : ℕ) → i < actor_count p.layout → Is asleep2 i → Isnt out1 i
    rests i low is = by (before i (omega (arith, low, few)) (was i (omega (arith, low, few)) is).1)
      where
        by : Is asleep i ⊎ ((i ≡ own) × (idle ≡ true)) → Isnt out1 i
        by (inl h) = out_low i (omega (arith, low, few)) (inl (not_own i h)) (k.rests i low h)
        by (inr h) = ap (bit_at out1) h.0 ∙ own_out (idle_job h.1)

    works : HaveNoWork p asleep2 0 (actor_count p.layout)
    works i from low is = by (before i (omega (arith, low, few)) (was i (omega (arith, low, few)) is).1)
      where
        by : Is asleep i ⊎ ((i ≡ own) × (idle ≡ true)) → LacksWork p (actor_at p.layout i)
        by (inl h) = lacks i low h (was i (omega (arith, low, few)) is).0
        by (inr h) = subst (LacksWork p) (sym (ap (actor_at p.layout) h.0 ∙ index_back p.layout actor there)) (when_idle h.1).1

    pub settled : (over ≡ true → IsOver p) → (p.stopped ≡ true → over ≡ true) → AreWoken p asleep2 out1 over
    settled ended stops = record { own = works; any = covered; over = none_asleep; ended = ended; stops = stops; rests = rests }

    -- who doesn't sleep any more is due
    pub due_are : HasCleared own asleep asleep2 due
    due_are i low other is isnt = by (is_or_isnt due i)
      where
        by : Is due i ⊎ Isnt due i → Is due i
        by (inl h) = h
        by (inr h) = not_both asleep2 i (z.others i low h ∙ (others i low other ∙ is)) isnt
