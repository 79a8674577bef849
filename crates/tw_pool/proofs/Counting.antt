-- Actors have places, and a new event is counted at its actor's place.
use Rattle.tw_pool.proofs.Names.{Actor, ActorCounts, All, AreCounts, Bool, Engine, Event, FitsWord, HasPlace, IsLayout, IsPlaced, List, Server, Worker, [], actor_of, ap, arith, cond, eq-eqb, eqb-true, events_of, false, get_or, get_or-set_other, get_or-set_same, is_in, length, length-append, ltb-true, place_of, refl, same_actor, set, subst, sym, true, word_of, ℕ, ◌%◌, ◌++◌, ◌+◌, ◌/◌, ◌<◌, ◌∙◌, ◌∷◌, ◌≡◌, ◌≢◌, ◌≤◌}
use Rattle.std.proofs.lemmas.List.Elements.{All-push, filter-append}
use Rattle.std.proofs.lemmas.List.Sums.{length-filter, count_by-le-length}
use Rattle.tw_pool.proofs.Round.{place_low, maker_of, round}

-- ---- an actor of the layout has a place

pub has_place : (layout : ActorCounts) (actor : Actor) → IsLayout layout → is_in layout actor ≡ true → HasPlace actor
has_place layout (Engine number) counts there = let below = ltb-true number layout.engines there in omega (arith, below, counts.few_engines)
has_place layout (Server number) counts there = let below = ltb-true number layout.servers there in omega (arith, below, counts.few_servers)
has_place layout (Worker number) counts there = let below = ltb-true number layout.workers there in omega (arith, below, counts.few_workers)

-- ---- those of an actor

-- no more of them than events
pub few : (actor : Actor) (history : List Event) → length (events_of actor history) ≤ length history
few actor history = rw (length-filter (λ (e : Event). same_actor (actor_of e) actor) history) (count_by-le-length (λ (e : Event). same_actor (actor_of e) actor) history)

pub itself : (a : Actor) → same_actor a a ≡ true
itself (Engine n) = eq-eqb n n refl
itself (Server n) = eq-eqb n n refl
itself (Worker n) = eq-eqb n n refl

pub the_same : (a b : Actor) → same_actor a b ≡ true → a ≡ b
the_same (Engine a) (Engine b) e = ap Engine (eqb-true a b e)
the_same (Engine a) (Server b) e = cc
the_same (Engine a) (Worker b) e = cc
the_same (Server a) (Engine b) e = cc
the_same (Server a) (Server b) e = ap Server (eqb-true a b e)
the_same (Server a) (Worker b) e = cc
the_same (Worker a) (Engine b) e = cc
the_same (Worker a) (Server b) e = cc
the_same (Worker a) (Worker b) e = ap Worker (eqb-true a b e)

pub not_same : (a b : Actor) → a ≢ b → same_actor a b ≡ false
not_same a b other = by (same_actor a b) refl
  where
    by : (t : Bool) → same_actor a b ≡ t → t ≡ false
    by true e = absurd (other (the_same a b e))
    by false e = refl

-- events that are all of one actor
abbrev pub AreBy : Actor → List Event → Type 0
AreBy actor [] = Unit {0}
AreBy actor (e ∷ es) = (actor_of e ≡ actor) × AreBy actor es

none_of : (a actor : Actor) → a ≢ actor → (es : List Event) → AreBy actor es → events_of a es ≡ []
none_of a actor h [] by = refl
none_of a actor h (e ∷ es) by =
    let other : same_actor (actor_of e) a ≡ false = not_same (actor_of e) a (λ is. h (sym is ∙ by.0)) in
    rw other (none_of a actor h es by.1)

pub others_same : (a actor : Actor) → a ≢ actor → (history es : List Event) → AreBy actor es → length (events_of a (history ++ es)) ≡ length (events_of a history)
others_same a actor h history es by =
    let split = ap (λ xs. length xs) (filter-append (λ (x : Event). same_actor (actor_of x) a) history es ∙ ap (λ xs. events_of a history ++ xs) (none_of a actor h es by)) in
    let long = length-append (events_of a history) [] in
    omega (arith, split, long)

one_place : (a b : Actor) → HasPlace a → HasPlace b → place_of a ≡ place_of b → same_actor a b ≡ true
one_place (Engine a) (Engine b) f g e = eq-eqb a b e
one_place (Engine a) (Server b) f g e = absurd (omega (arith, f, g, e))
one_place (Engine a) (Worker b) f g e = absurd (omega (arith, f, g, e))
one_place (Server a) (Engine b) f g e = absurd (omega (arith, f, g, e))
one_place (Server a) (Server b) f g e = eq-eqb a b (omega (arith, e))
one_place (Server a) (Worker b) f g e = absurd (omega (arith, f, g, e))
one_place (Worker a) (Engine b) f g e = absurd (omega (arith, f, g, e))
one_place (Worker a) (Server b) f g e = absurd (omega (arith, f, g, e))
one_place (Worker a) (Worker b) f g e = eq-eqb a b (omega (arith, e))

-- the word of an event has its actor's place
pub is_placed : (e : Event) → FitsWord e → IsPlaced (word_of e)
is_placed e fits = subst (λ (x : Event). HasPlace (actor_of x) × (word_of e / 8 % 32 ≡ place_of (actor_of x))) (sym (round e fits)) (fits.0, maker_of e fits.0)

pub all_placed : (words new : List ℕ) (word : ℕ) (e : Event) → FitsWord e → word ≡ word_of e → new ≡ words ++ word ∷ [] → All IsPlaced words → All IsPlaced new
all_placed words new word e fits is more all = subst (All IsPlaced) (sym more) (All-push IsPlaced words word all (subst IsPlaced (sym is) (is_placed e fits)))

-- ---- one event more

pub of_more : (actor : Actor) (history : List Event) (e : Event) → events_of actor (history ++ e ∷ []) ≡ events_of actor history ++ cond (same_actor (actor_of e) actor) (e ∷ []) []
of_more actor history e = filter-append (λ (x : Event). same_actor (actor_of x) actor) history (e ∷ []) ∙ ap (λ es. events_of actor history ++ es) (last (same_actor (actor_of e) actor) refl)
  where
    last : (b : Bool) → same_actor (actor_of e) actor ≡ b → events_of actor (e ∷ []) ≡ cond b (e ∷ []) []
    last true is = rw is refl
    last false is = rw is refl

module _ (counts : List ℕ) (history : List Event) (e : Event) (many : length counts ≡ 24) (counted : AreCounts counts history) (fits : FitsWord e) where
  pub below : (place : ℕ) → place ≡ word_of e / 8 % 32 → get_or counts place 0 ≤ length history
  below place is =
      let at : place ≡ place_of (actor_of e) = is ∙ maker_of e fits.0 in
      let count : get_or counts place 0 ≡ length (events_of (actor_of e) history) = ap (λ n. get_or counts n 0) at ∙ counted (actor_of e) fits.0 in
      let low = few (actor_of e) history in
      rw count low

  pub counted_more : (place : ℕ) (events : List Event) → place ≡ word_of e / 8 % 32 → events ≡ history ++ e ∷ [] → AreCounts (set counts place (get_or counts place 0 + 1)) events
  counted_more place events is more actor has = by (same_actor (actor_of e) actor) refl
    where
      at : place ≡ place_of (actor_of e)
      at = is ∙ maker_of e fits.0

      by : (b : Bool) → same_actor (actor_of e) actor ≡ b → get_or (set counts place (get_or counts place 0 + 1)) (place_of actor) 0 ≡ length (events_of actor events)
      by true same =
          let who : actor_of e ≡ actor = the_same (actor_of e) actor same in
          let here : place_of actor ≡ place = ap place_of (sym who) ∙ sym at in
          let low : place < length counts = let l = place_low actor has in omega (arith, l, here, many) in
          let left : get_or (set counts place (get_or counts place 0 + 1)) (place_of actor) 0 ≡ get_or counts place 0 + 1 = ap (λ n. get_or (set counts place (get_or counts place 0 + 1)) n 0) here ∙ get_or-set_same counts place (get_or counts place 0 + 1) 0 low in
          let old : get_or counts place 0 ≡ length (events_of actor history) = ap (λ n. get_or counts n 0) (sym here) ∙ counted actor has in
          let right : length (events_of actor events) ≡ length (events_of actor history) + 1 = ap (λ es. length (events_of actor es)) more ∙ ap (λ es. length es) (of_more actor history e ∙ ap (λ b. events_of actor history ++ cond b (e ∷ []) []) same) ∙ length-append (events_of actor history) (e ∷ []) in
          omega (arith, left, old, right)
      by false other =
          let apart : place_of actor ≢ place = λ is_here. let yes = one_place (actor_of e) actor fits.0 has (sym (is_here ∙ at)) in let both : true ≡ false = sym yes ∙ other in cc in
          let left = get_or-set_other counts place (place_of actor) (get_or counts place 0 + 1) 0 apart in
          let right : length (events_of actor events) ≡ length (events_of actor history) + 0 = ap (λ es. length (events_of actor es)) more ∙ ap (λ es. length es) (of_more actor history e ∙ ap (λ b. events_of actor history ++ cond b (e ∷ []) []) other) ∙ length-append (events_of actor history) [] in
          let old = counted actor has in
          omega (arith, left, old, right)
