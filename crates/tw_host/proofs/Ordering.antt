-- Seats in the order of their actors, and their events.
use Rattle.tw_host.proofs.Names.{Actor, ActorCounts, All, All-permutation, All-tail, Bool, Contains, Contains-permutation, Engine, Event, IsPermutation, IsPermutation-map, IsPermutation-sym, List, NoneOf, SeatEvents, Server, SwappedAt, Worker, [], actor_at, actor_count, actors_of, ap, append-nil, arith, drop, drop_all, eqb-false, eqb-true, events_of, false, fill_by_all, get_or, get_or-map, if◌then◌else◌, length, length-map, ltb-false, ltb-true, map, nat_lt, number_in_kind, refl, seen_by, seen_of, slice_index_or, subst, sum_by, sum_by-IsPermutation, sym, take, true, ℕ, ◌++◌, ◌+◌, ◌-◌, ◌<◌, ◌==◌, ◌∙◌, ◌∷◌, ◌≡◌, ◌≢◌, ◌≤◌}
use Rattle.std.proofs.Math.Seq.{take-length}
use Rattle.tw_host.proofs.Lists.{map_map}

-- ---- no two seats of a layout are one actor's

abbrev at_by : ℕ → ℕ → Bool → Bool → ℕ → Actor
at_by e s in_e in_s n = if in_e then Engine n else (if in_s then Server (n - e) else Worker (n - (e + s)))

apart_by : (e s j k : ℕ) (a b c d : Bool) → nat_lt j e ≡ a → nat_lt j (e + s) ≡ b → nat_lt k e ≡ c → nat_lt k (e + s) ≡ d → j < k → at_by e s a b j ≢ at_by e s c d k
apart_by e s j k true b true d ja jb kc kd low is = let n = ap number_in_kind is in absurd (omega (arith, low, n))
apart_by e s j k true b false true ja jb kc kd low is = cc
apart_by e s j k true b false false ja jb kc kd low is = cc
apart_by e s j k false true true d ja jb kc kd low is = cc
apart_by e s j k false true false true ja jb kc kd low is = let n = ap number_in_kind is in let h = ltb-false j e ja in absurd (omega (arith, low, n, h))
apart_by e s j k false true false false ja jb kc kd low is = cc
apart_by e s j k false false true d ja jb kc kd low is = cc
apart_by e s j k false false false true ja jb kc kd low is = cc
apart_by e s j k false false false false ja jb kc kd low is = let n = ap number_in_kind is in let h = ltb-false j (e + s) jb in absurd (omega (arith, low, n, h))

pub apart : (layout : ActorCounts) (j k : ℕ) → j < k → actor_at layout j ≢ actor_at layout k
apart layout j k low = apart_by layout.engines layout.servers j k (nat_lt j layout.engines) (nat_lt j (layout.engines + layout.servers)) (nat_lt k layout.engines) (nat_lt k (layout.engines + layout.servers)) refl refl refl refl low

-- ---- two seats in each other's place

pub swapped : {X Y : Type 0} (f : X → Y) (xs ys : List X) (i j : ℕ) → i < length xs → j < length xs → length ys ≡ length xs → SwappedAt xs ys i j
    → ((d : Y) → get_or (map f ys) i d ≡ get_or (map f xs) j d) × ((k : ℕ) (d : Y) → k < length xs → k ≢ i → k ≢ j → get_or (map f ys) k d ≡ get_or (map f xs) k d)
swapped f [] ys i j low other same s = absurd (omega (arith, low))
swapped f (x ∷ xs) ys i j low other same s = (
  (λ d. get_or-map f ys i x d (omega (arith, low, same)) ∙ (ap f (s.0 x) ∙ sym (get_or-map f (x ∷ xs) j x d other))),
  (λ k d here i_not j_not. get_or-map f ys k x d (omega (arith, here, same)) ∙ (ap f (s.2 k x i_not j_not) ∙ sym (get_or-map f (x ∷ xs) k x d here))),
)

module _ {X : Type 0} (f : X → Actor) (layout : ActorCounts) where
  -- the first k are in order
  abbrev pub InOrder : List X → ℕ → Type 0
  InOrder seats k = (j : ℕ) (d : Actor) → j < k → get_or (map f seats) j d ≡ actor_at layout j

  pub placed_more : (old new : List X) (k place : ℕ) (actor : Actor) → InOrder old k → k ≤ place → place < length (map f old) → ((d : Actor) → get_or (map f old) place d ≡ actor) → actor ≡ actor_at layout k
      → length new ≡ length old → SwappedAt old new k place → InOrder new (k + 1)
  placed_more old new k place actor before low there at is long s j d less = by (j == k) refl
    where
      other : place < length old
      other = let n = length-map old f in omega (arith, there, n)

      here : k < length old
      here = omega (arith, low, other)

      by : (b : Bool) → (j == k) ≡ b → get_or (map f new) j d ≡ actor_at layout j
      by true e =
          let same : j ≡ k = eqb-true j k e in
          ap (λ n. get_or (map f new) n d) same ∙ ((swapped f old new k place here other long s).0 d ∙ (at d ∙ (is ∙ ap (actor_at layout) (sym same))))
      by false e =
          let apart_k : j ≢ k = eqb-false j k e in
          let under : j < k = omega (arith, less, apart_k) in
          (swapped f old new k place here other long s).1 j d (omega (arith, under, here)) apart_k (λ same. absurd (omega (arith, under, low, same))) ∙ before j d under

  pub none_of : (seats : List X) (k : ℕ) (actor : Actor) → InOrder seats k → actor ≡ actor_at layout k → ((j : ℕ) (d : Actor) → k ≤ j → j < length (map f seats) → get_or (map f seats) j d ≢ actor) → NoneOf actor (map f seats)
  none_of seats k actor before is not_less j d low = by (nat_lt j k) refl
    where
      by : (b : Bool) → nat_lt j k ≡ b → get_or (map f seats) j d ≢ actor
      by true e = λ same. let under = ltb-true j k e in apart layout j k under (sym (before j d under) ∙ (same ∙ is))
      by false e = not_less j d (ltb-false j k e) low

  pub all_placed : (seats : List X) (k : ℕ) → length seats ≡ actor_count layout → actor_count layout ≤ k → InOrder seats k → map f seats ≡ actors_of layout
  all_placed seats k long over before = fill_by_all (actor_at layout) (map f seats) (actor_count layout) (Engine 0) (length-map seats f ∙ long) (λ j low. before j (Engine 0) (omega (arith, low, over)))

pub moved_from : {X : Type 0} (xs ys zs : List X) → xs ≡ ys → IsPermutation xs zs → IsPermutation ys zs
moved_from {X} xs ys zs same moved = subst (λ (l : List X). IsPermutation l zs) same moved

-- a loan of a vector's items leaves as many
pub issued_back : {X : Type 0} (n : ℕ) (xs items : List X) → n ≡ length items → length xs ≡ length items → take n (xs ++ drop (length xs) items) ≡ xs
issued_back n xs items is same =
    let none : drop (length xs) items ≡ [] = drop_all (length xs) items (omega (arith, same)) in
    ap (λ ys. take n (xs ++ ys)) none ∙ (ap (λ ys. take n ys) (append-nil xs) ∙ (ap (λ k. take k xs) (is ∙ sym same) ∙ take-length xs))

-- ---- events of seats

-- seats that each have the events of their actors
pub each_of : (history : List Event) (seats : List SeatEvents) → All (λ s. s.events ≡ events_of s.actor history) seats → seats ≡ map (seen_of history) (map (λ (s : SeatEvents). s.actor) seats)
each_of history [] all = refl
each_of history (s ∷ seats) all =
    let first : s.events ≡ events_of s.actor history = all 0 s (omega arith) in
    let rest = All-tail (λ (t : SeatEvents). t.events ≡ events_of t.actor history) s seats all in
    ap (λ (es : List Event). seen_by s.actor es ∷ seats) first ∙ ap (λ (ss : List SeatEvents). seen_of history s.actor ∷ ss) (each_of history seats rest)

module _ {X : Type 0} (view : X → SeatEvents) (items seats : List X) (moved : IsPermutation items seats) where
  -- they have as many events in any order
  pub sums : (others : List X) → others ≡ seats → sum_by (λ (t : SeatEvents). length t.events) (map view others) ≡ sum_by (λ (t : SeatEvents). length t.events) (map view items)
  sums others same = ap (λ xs. sum_by (λ (t : SeatEvents). length t.events) (map view xs)) same ∙ sum_by-IsPermutation (λ (t : SeatEvents). length t.events) (map view items) (map view seats) (IsPermutation-map view items seats moved)

pub all_at : {X : Type 0} (view : X → SeatEvents) (xs ys : List X) (h other : List Event) → xs ≡ ys → h ≡ other → All (λ (t : SeatEvents). t.events ≡ events_of t.actor h) (map view xs) → All (λ (t : SeatEvents). t.events ≡ events_of t.actor other) (map view ys)
all_at {X} view xs ys h other same is all =
    let there = subst (λ (zs : List X). All (λ (t : SeatEvents). t.events ≡ events_of t.actor h) (map view zs)) same all in
    subst (λ (es : List Event). All (λ (t : SeatEvents). t.events ≡ events_of t.actor es) (map view ys)) is there

module _ {X : Type 0} (actor : X → Actor) (list : X → List Event) (layout : ActorCounts) (h : List Event) (items seats : List X) (moved : IsPermutation items seats) (placed : map actor seats ≡ actors_of layout)
    (all : All (λ (t : SeatEvents). t.events ≡ events_of t.actor h) (map (λ s. seen_by (actor s) (list s)) seats)) where
  are : map (λ s. seen_by (actor s) (list s)) seats ≡ map (seen_of h) (actors_of layout)
  are = each_of h (map (λ s. seen_by (actor s) (list s)) seats) all ∙ ap (map (seen_of h)) (map_map (λ s. seen_by (actor s) (list s)) (λ (t : SeatEvents). t.actor) seats ∙ placed)

  pub one_each : IsPermutation (map (λ s. seen_by (actor s) (list s)) items) (map (seen_of h) (actors_of layout))
  one_each = subst (λ (ts : List SeatEvents). IsPermutation (map (λ s. seen_by (actor s) (list s)) items) ts) are (IsPermutation-map (λ s. seen_by (actor s) (list s)) items seats moved)

  pub by_seat : map list seats ≡ map (λ a. events_of a h) (actors_of layout)
  by_seat = sym (map_map (λ s. seen_by (actor s) (list s)) (λ (t : SeatEvents). t.events) seats) ∙ ap (map (λ (t : SeatEvents). t.events)) are ∙ map_map (seen_of h) (λ (t : SeatEvents). t.events) (actors_of layout)

-- ---- one place more

pub more_below : (P : ℕ → Type 0) (k : ℕ) → ((j : ℕ) → j < k → P j) → P k → (j : ℕ) → j < k + 1 → P j
more_below P k below here j low = by (j == k) refl
  where
    by : (b : Bool) → (j == k) ≡ b → P j
    by true e = subst P (sym (eqb-true j k e)) here
    by false e = let other : j ≢ k = eqb-false j k e in below j (omega (arith, low, other))

pub at_place : {X Y : Type 0} (f : X → Y) (xs : List X) (k : ℕ) (x : X) (d : Y) → k < length xs → x ≡ get_or xs k x → get_or (map f xs) k d ≡ f x
at_place f xs k x d low at = get_or-map f xs k x d low ∙ ap f (sym at)

-- ---- seats that differ

-- one of them with another list than its actor's events
pub contained : (seats : List SeatEvents) (k : ℕ) (actor : Actor) (list : List Event) → k < length seats → ((d : SeatEvents) → (slice_index_or seats k d).actor ≡ actor) → ((d : SeatEvents) → (slice_index_or seats k d).events ≡ list)
    → Contains seats (seen_by actor list)
contained seats k actor list low whose what = let d = seen_by actor list in (k, low, ap (λ (a : Actor). seen_by a (slice_index_or seats k d).events) (whose d) ∙ ap (λ (es : List Event). seen_by actor es) (what d))

module _ {X : Type 0} (actor : X → Actor) (list : X → List Event) (items seats : List X) (moved : IsPermutation items seats) where
  back_moved : IsPermutation (map (λ s. seen_by (actor s) (list s)) seats) (map (λ s. seen_by (actor s) (list s)) items)
  back_moved = IsPermutation-sym (map (λ s. seen_by (actor s) (list s)) items) (map (λ s. seen_by (actor s) (list s)) seats) (IsPermutation-map (λ s. seen_by (actor s) (list s)) items seats moved)

  -- none of them is the actor's
  pub lacking : (a : Actor) → NoneOf a (map actor seats) → NoneOf a (map (λ (t : SeatEvents). t.actor) (map (λ s. seen_by (actor s) (list s)) items))
  lacking a none =
      let there = All-permutation (λ (b : Actor). b ≢ a) (map actor seats) (map actor items) (IsPermutation-sym (map actor items) (map actor seats) (IsPermutation-map actor items seats moved)) none in
      subst (λ (bs : List Actor). NoneOf a bs) (sym (map_map (λ s. seen_by (actor s) (list s)) (λ (t : SeatEvents). t.actor) items)) there

  module _ (others : List X) (same : others ≡ seats) (k : ℕ) (a : Actor) (es : List Event) (low : k < length (map (λ s. seen_by (actor s) (list s)) others)) (is : es ≡ slice_index_or (map list others) k []) where
    pub list_at : (d : SeatEvents) → (slice_index_or (map (λ s. seen_by (actor s) (list s)) others) k d).events ≡ es
    list_at d =
        sym (get_or-map (λ (t : SeatEvents). t.events) (map (λ s. seen_by (actor s) (list s)) others) k d [] low) ∙ ap (λ (ls : List (List Event)). get_or ls k []) (map_map (λ s. seen_by (actor s) (list s)) (λ (t : SeatEvents). t.events) others) ∙ sym is

    pub held : ((d : SeatEvents) → (slice_index_or (map (λ s. seen_by (actor s) (list s)) others) k d).actor ≡ a) → Contains (map (λ s. seen_by (actor s) (list s)) items) (seen_by a es)
    held whose =
        let there = contained (map (λ s. seen_by (actor s) (list s)) others) k a es low whose list_at in
        Contains-permutation (map (λ s. seen_by (actor s) (list s)) seats) (map (λ s. seen_by (actor s) (list s)) items) (seen_by a es) back_moved (subst (λ (xs : List X). Contains (map (λ s. seen_by (actor s) (list s)) xs) (seen_by a es)) same there)
