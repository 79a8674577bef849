-- Comparing the seats of a layout with the events of a run, each of which is read once.
use Rattle.std.proofs.Common.{◌≡◌, ◌≢◌, ◌==◌, ◌≤◌, ◌<◌, ◌+◌, ◌-◌, ℕ, Bool, true, false, Option, Some, None, ◌⊎◌, inl, inr, drop, set, option_map, List, [], ◌∷◌, length, map, nat_lt, refl, sym, ap, subst, ◌∙◌, arith, get_or}
use Rattle.std.specs.Prelude.{◌↔◌, IfSome, MatchOption, slice_get}
use Rattle.tw_host.proofs.Names.{Actor, ActorCounts, All, Engine, Event, SeatEvents, Server, Worker, actor_at, actor_count, actor_of, actors_of, drop_all, eqb-false, eqb-true, events_of, get_or-map, get_or-range_with_len, get_or-set_other, get_or-set_same, index_of, is_in, itself, length-drop, length-map, length-range_with_len, ltb-true, nat_tests, not_same, range_with_len, same_Some, same_actor, seen_by, slice_get_cases}
use Rattle.tw_host.proofs.Lists.{both_less, first_of_rest, map_map, other_next, own_next, rest_more, same_both}
use Rattle.tw_host.proofs.Ordering.{apart}

-- ---- an actor of the layout is at its index

pub index_low : (layout : ActorCounts) (a : Actor) → is_in layout a ≡ true → index_of layout a < actor_count layout
index_low layout (Engine n) is = let low = ltb-true n layout.engines is in omega (arith, low)
index_low layout (Server n) is = let low = ltb-true n layout.servers is in omega (arith, low)
index_low layout (Worker n) is = let low = ltb-true n layout.workers is in omega (arith, low)

pub index_back : (layout : ActorCounts) (a : Actor) → is_in layout a ≡ true → actor_at layout (index_of layout a) ≡ a
index_back layout (Engine n) is = rw is refl
index_back layout (Server n) is =
    let low = ltb-true n layout.servers is in
    let e = layout.engines in
    let not_less : nat_lt (e + n) e ≡ false = grind (arith, nat_tests) in
    let within : nat_lt (e + n) (e + layout.servers) ≡ true = grind (arith, nat_tests, low) in
    let back : (e + n) - e ≡ n = omega arith in
    rw (not_less, within) (ap Server back)
index_back layout (Worker n) is =
    let e = layout.engines in
    let s = layout.servers in
    let first : nat_lt (e + s + n) e ≡ false = grind (arith, nat_tests) in
    let second : nat_lt (e + s + n) (e + s) ≡ false = grind (arith, nat_tests) in
    let back : (e + s + n) - (e + s) ≡ n = omega arith in
    rw (first, second) (ap Worker back)

-- an actor at an index is of the layout
pub there : (layout : ActorCounts) (j : ℕ) → j < actor_count layout → is_in layout (actor_at layout j) ≡ true
there layout j low = by (nat_lt j layout.engines) (nat_lt j (layout.engines + layout.servers)) refl refl
  where
    by : (a b : Bool) → nat_lt j layout.engines ≡ a → nat_lt j (layout.engines + layout.servers) ≡ b → is_in layout (actor_at layout j) ≡ true
    by true b is other = rw (is, is) refl
    by false true is other = let t : nat_lt (j - layout.engines) layout.servers ≡ true = grind (arith, nat_tests, is, other) in rw (is, other) t
    by false false is other = let t : nat_lt (j - (layout.engines + layout.servers)) layout.workers ≡ true = grind (arith, nat_tests, is, other, low) in rw (is, other) t

pub others_apart : (layout : ActorCounts) (i j : ℕ) → i ≢ j → actor_at layout i ≢ actor_at layout j
others_apart layout i j other = by (nat_lt i j) refl
  where
    by : (b : Bool) → nat_lt i j ≡ b → actor_at layout i ≢ actor_at layout j
    by true is = apart layout i j (ltb-true i j is)
    by false is = λ e. let above : j < i = grind (arith, nat_tests, is, other) in apart layout j i above (sym e)

-- ---- how many events of each seat's list are among the first k of the run

pub made_by : (history : List Event) (k : ℕ) (a : Actor) → option_map actor_of (slice_get history k) ≡ Some a → (e : Event) × (slice_get history k ≡ Some e) × (actor_of e ≡ a) × (k < length history)
made_by history k a is = by (slice_get_cases history k).1
  where
    by : ((e : Event) × (k < length history) × (slice_get history k ≡ Some e) × (get_or history k e ≡ e)) ⊎ ((length history ≤ k) × (slice_get history k ≡ None))
        → (e : Event) × (slice_get history k ≡ Some e) × (actor_of e ≡ a) × (k < length history)
    by (inl c) = (c.0, c.2, same_Some (actor_of c.0) a (ap (option_map actor_of) (sym c.2) ∙ is), c.1)
    by (inr c) = let none : None ≡ Some a = ap (option_map actor_of) (sym c.1) ∙ is in cc

pub as_many_seats : {X : Type 0} (f : X → Actor) (seats : List X) (layout : ActorCounts) → map f seats ≡ actors_of layout → length seats ≡ actor_count layout
as_many_seats f seats layout is = sym (length-map seats f) ∙ (ap length is ∙ (length-map (range_with_len 0 (actor_count layout)) (actor_at layout) ∙ length-range_with_len 0 (actor_count layout)))

pub match_by : {A B : Type 0} {P Q : ℕ → Type 0} (o : Option ℕ) → (A → B) → ((j : ℕ) → P j → Q j) → MatchOption o A P → MatchOption o B Q
match_by None f g is = f is
match_by (Some j) f g is = g j is

pub some_if : (A : Type 0) {P Q : ℕ → Type 0} (o : Option ℕ) → MatchOption o A P → ((k : ℕ) → P k → Q k) → IfSome o Q
some_if A None m f = tt
some_if A (Some k) m f = f k m

pub either_way : {A B : Type 0} {P Q : ℕ → Type 0} (C : Type 0) (o : Option ℕ) → MatchOption o A P → MatchOption o B Q → (A → B → C) → ((k : ℕ) → P k → Q k → C) → C
either_way C None m n f g = f m n
either_way C (Some k) m n f g = g k m n

module _ (layout : ActorCounts) (history : List Event) (lists : List (List Event)) where
  abbrev Of : ℕ → ℕ → ℕ → Type 0
  Of k n j = (n ≤ k) × (n ≤ length (get_or lists j [])) × ((drop n (get_or lists j []) ≡ events_of (actor_at layout j) (drop k history)) ↔ (get_or lists j [] ≡ events_of (actor_at layout j) history))

  abbrev pub Found : List ℕ → ℕ → Type 0
  Found found k = (j : ℕ) → j < actor_count layout → Of k (get_or found j 0) j

  module _ (found : List ℕ) (k : ℕ) (event : Event) (before : Found found k) (low : k < length history) (at : slice_get history k ≡ Some event) where
    of_others : (j : ℕ) → j < actor_count layout → actor_at layout j ≢ actor_of event → Of (k + 1) (get_or found j 0) j
    of_others j there_ other =
        let list = get_or lists j [] in
        let rest = drop (get_or found j 0) list in
        let a = actor_at layout j in
        let stays = other_next a history k event low at (not_same (actor_of event) a (λ e. other (sym e))) in
        let was = before j there_ in
        (omega (arith, was.0), was.1, same_both list (events_of a history) rest rest (events_of a (drop k history)) (events_of a (drop (k + 1) history)) refl stays was.2)

    -- an actor without a seat
    pub passed : is_in layout (actor_of event) ≡ false → Found found (k + 1)
    passed out j there_ = of_others j there_ (λ e. let in_ : true ≡ false = sym (there layout j there_) ∙ (ap (is_in layout) e ∙ out) in cc)

    module _ (own : ℕ) (in_ : is_in layout (actor_of event) ≡ true) (is : own ≡ index_of layout (actor_of event)) where
      whose : actor_at layout own ≡ actor_of event
      whose = ap (actor_at layout) is ∙ index_back layout (actor_of event) in_

      pub own_low : own < actor_count layout
      own_low = subst (λ n. n < actor_count layout) (sym is) (index_low layout (actor_of event) in_)

      first : events_of (actor_at layout own) (drop k history) ≡ event ∷ events_of (actor_at layout own) (drop (k + 1) history)
      first = own_next (actor_at layout own) history k event low at (ap (same_actor (actor_of event)) whose ∙ itself (actor_of event))

      -- its list has another one next, or none
      pub missed : slice_get (get_or lists own []) (get_or found own 0) ≢ Some event → get_or lists own [] ≢ events_of (actor_at layout own) history
      missed other = λ e. other (first_of_rest (get_or lists own []) (get_or found own 0) event (events_of (actor_at layout own) (drop (k + 1) history)) ((before own own_low).2.1 e ∙ first))

      pub found_more : own < length found → slice_get (get_or lists own []) (get_or found own 0) ≡ Some event → Found (set found own (get_or found own 0 + 1)) (k + 1)
      found_more room next j there_ = by (j == own) refl
        where
          list : List Event
          list = get_or lists own []

          n : ℕ
          n = get_or found own 0

          more : n < length list
          more = at_most (slice_get_cases list n).1
            where
              at_most : ((x : Event) × (n < length list) × (slice_get list n ≡ Some x) × (get_or list n x ≡ x)) ⊎ ((length list ≤ n) × (slice_get list n ≡ None)) → n < length list
              at_most (inl c) = c.1
              at_most (inr c) = let none : None ≡ Some event = sym c.1 ∙ next in cc

          here : (m : ℕ) → m ≡ n + 1 → Of (k + 1) m own
          here m same =
              let was = before own own_low in (
                omega (arith, was.0, same),
                omega (arith, more, same),
                both_less list (events_of (actor_at layout own) history) event (drop n list) (drop m list) (events_of (actor_at layout own) (drop k history)) (events_of (actor_at layout own) (drop (k + 1) history))
                    (rest_more list n event more next ∙ ap (λ i. event ∷ drop i list) (sym same)) first was.2,
              )

          by : (b : Bool) → (j == own) ≡ b → Of (k + 1) (get_or (set found own (n + 1)) j 0) j
          by true e =
              let same : j ≡ own = eqb-true j own e in
              subst (λ i. Of (k + 1) (get_or (set found own (n + 1)) i 0) i) (sym same) (here (get_or (set found own (n + 1)) own 0) (get_or-set_same found own (n + 1) 0 room))
          by false e =
              let other : j ≢ own = eqb-false j own e in
              subst (λ m. Of (k + 1) m j) (sym (get_or-set_other found own j (n + 1) 0 other)) (of_others j there_ (λ is_event. others_apart layout j own other (is_event ∙ sym whose)))

  module _ (found : List ℕ) (k : ℕ) (all : Found found k) (over : length history ≤ k) (j : ℕ) (low : j < actor_count layout) where
    none : events_of (actor_at layout j) (drop k history) ≡ []
    none = ap (events_of (actor_at layout j)) (drop_all k history over)

    pub whole : get_or found j 0 ≡ length (get_or lists j []) → get_or lists j [] ≡ events_of (actor_at layout j) history
    whole is = (all j low).2.0 (drop_all (get_or found j 0) (get_or lists j []) (omega (arith, is)) ∙ sym none)

    pub longer : get_or found j 0 ≢ length (get_or lists j []) → get_or lists j [] ≢ events_of (actor_at layout j) history
    longer other = λ e.
        let nothing = sym (length-drop (get_or found j 0) (get_or lists j [])) ∙ ap length ((all j low).2.1 e ∙ none) in
        other (omega (arith, nothing, (all j low).1))

-- ---- seats in the order of their actors

module _ {X : Type 0} (actor : X → Actor) (list : X → List Event) (seats : List X) (layout : ActorCounts) (placed : map actor seats ≡ actors_of layout) where
  abbrev view : X → SeatEvents
  view s = seen_by (actor s) (list s)

  long : length (map view seats) ≡ actor_count layout
  long = length-map seats view ∙ as_many_seats actor seats layout placed

  pub whose_there : (k : ℕ) (d : SeatEvents) → k < actor_count layout → (get_or (map view seats) k d).actor ≡ actor_at layout k
  whose_there k d low =
      sym (get_or-map (λ (t : SeatEvents). t.actor) (map view seats) k d d.actor (omega (arith, low, long)))
      ∙ (ap (λ (ws : List Actor). get_or ws k d.actor) (map_map view (λ (t : SeatEvents). t.actor) seats ∙ placed)
      ∙ (get_or-map (actor_at layout) (range_with_len 0 (actor_count layout)) k 0 d.actor (omega (arith, low, length-range_with_len 0 (actor_count layout)))
      ∙ ap (actor_at layout) (get_or-range_with_len 0 (actor_count layout) k 0 low ∙ from_zero)))
    where
      from_zero : 0 + k ≡ k
      from_zero = omega arith

  pub list_there : (k : ℕ) (d : SeatEvents) → k < actor_count layout → (get_or (map view seats) k d).events ≡ get_or (map list seats) k []
  list_there k d low =
      sym (get_or-map (λ (t : SeatEvents). t.events) (map view seats) k d [] (omega (arith, low, long)))
      ∙ ap (λ (es : List (List Event)). get_or es k []) (map_map view (λ (t : SeatEvents). t.events) seats)

  pub all_own : (h : List Event) → ((j : ℕ) → j < actor_count layout → get_or (map list seats) j [] ≡ events_of (actor_at layout j) h) → All (λ (t : SeatEvents). t.events ≡ events_of t.actor h) (map view seats)
  all_own h each k d low =
      let under : k < actor_count layout = omega (arith, low, long) in
      list_there k d under ∙ (each k under ∙ ap (λ a. events_of a h) (sym (whose_there k d under)))

  pub other_there : (h : List Event) (k : ℕ) → k < actor_count layout → get_or (map list seats) k [] ≢ events_of (actor_at layout k) h
      → (k < length (map view seats)) × ((d : SeatEvents) → (get_or (map view seats) k d).actor ≡ actor_at layout k) × ((d : SeatEvents) → (get_or (map view seats) k d).events ≢ events_of (actor_at layout k) h)
  other_there h k low other = (omega (arith, low, long), (λ d. whose_there k d low), (λ d e. other (sym (list_there k d low) ∙ e)))
