-- Drivers of seats, one after another.
use Rattle.tw_workers.proofs.Names.{AllDrove, Bool, Drove, List, Run, SeatEvents, [], actors_of, ap, drop, false, get_or, length, map, refl, seen_by, subst, sym, true, ◌++◌, ◌||◌, ◌∙◌, ◌∷◌, ◌≡◌}
use Rattle.std.specs.Prelude.{reverse}
use Rattle.std.proofs.lemmas.List.{reverse-append, reverse-reverse}
use Rattle.std.proofs.lemmas.List.Sorted.{IsPermutation-refl}
use Rattle.std.specs.List.Sorted.{IsPermutation}
use Rattle.tw_types.specs.declared.actor.Actor.{Actor}
use Rattle.tw_types.specs.declared.event.Event.{Event}
use Rattle.tw_host.specs.Ends.{IsOneEach}
use Rattle.tw_workers.proofs.Driving.{kept_actor}
use Rattle.tw_workers.specs.Threads.AllDrove.{none, threaded, unthreaded}

module _ {X : Type 0} (view : X → SeatEvents) (run : Run) (unwatched stoppable : Type 0) where
  -- from the last one on
  abbrev pub AllBack : List X → List X → Bool → Type 0
  AllBack seats lefts memory = AllDrove run unwatched stoppable (map view (reverse seats)) (map view (reverse lefts)) memory

  pub no_seat : (seats lefts : List X) → length seats ≡ 0 → length lefts ≡ 0 → AllBack seats lefts false
  no_seat [] [] is same = none
  no_seat [] (l ∷ lefts) is same = cc
  no_seat (s ∷ seats) lefts is same = cc

  turned : (xs : List X) (x : X) → map view (reverse (xs ++ x ∷ [])) ≡ view x ∷ map view (reverse xs)
  turned xs x = ap (map view) (reverse-append xs (x ∷ []))

  module _ (seats others lefts : List X) (seat left : X) (split : seats ≡ others ++ seat ∷ []) where
    joined : (memory : Bool) → AllDrove run unwatched stoppable (view seat ∷ map view (reverse others)) (view left ∷ map view (reverse lefts)) memory → AllBack seats (lefts ++ left ∷ []) memory
    joined memory all =
        subst (λ (ss : List SeatEvents). AllDrove run unwatched stoppable ss (map view (reverse (lefts ++ left ∷ []))) memory) (sym (ap (λ xs. map view (reverse xs)) split ∙ turned others seat))
        (subst (λ (ls : List SeatEvents). AllDrove run unwatched stoppable (view seat ∷ map view (reverse others)) ls memory) (sym (turned lefts left)) all)

    pub threaded_last : (memory rest : Bool) → Drove run unwatched stoppable (view seat) (view left) memory → AllBack others lefts rest → AllBack seats (lefts ++ left ∷ []) (memory || rest)
    threaded_last memory rest drove all = joined (memory || rest) (threaded _ _ _ _ memory rest drove all)

    pub unthreaded_last : (memory rest : Bool) → Drove run unwatched stoppable (view seat) (view left) memory → AllBack others lefts rest → AllBack seats (lefts ++ left ∷ []) true
    unthreaded_last memory rest drove all = joined true (unthreaded _ _ _ _ memory rest drove all)

  -- a list that is reversed before and after
  pub all_there : (seats back lefts there : List X) (memory : Bool) → back ≡ reverse seats → there ≡ reverse lefts → AllBack back lefts memory → AllDrove run unwatched stoppable (map view seats) (map view there) memory
  all_there seats back lefts there memory is at all =
      subst (λ (xs : List X). AllDrove run unwatched stoppable (map view xs) (map view there) memory) (ap reverse is ∙ reverse-reverse seats)
      (subst (λ (xs : List X). AllDrove run unwatched stoppable (map view (reverse back)) (map view xs) memory) (sym at) all)

-- each seat stays its actor's
pub same_actors : (run : Run) (unwatched stoppable : Type 0) (seats lefts : List SeatEvents) (memory : Bool) → AllDrove run unwatched stoppable seats lefts memory → map (λ (s : SeatEvents). s.actor) lefts ≡ map (λ (s : SeatEvents). s.actor) seats
same_actors run unwatched stoppable _ _ _ none = refl
same_actors run unwatched stoppable _ _ _ (threaded seat left seats lefts memory others drove all) =
    ap (λ (a : Actor). a ∷ map (λ (s : SeatEvents). s.actor) lefts) (kept_actor run unwatched stoppable seat left drove.0 drove.1)
    ∙ ap (λ (as_ : List Actor). seat.actor ∷ as_) (same_actors run unwatched stoppable seats lefts others all)
same_actors run unwatched stoppable _ _ _ (unthreaded seat left seats lefts memory others drove all) =
    ap (λ (a : Actor). a ∷ map (λ (s : SeatEvents). s.actor) lefts) (kept_actor run unwatched stoppable seat left drove.0 drove.1)
    ∙ ap (λ (as_ : List Actor). seat.actor ∷ as_) (same_actors run unwatched stoppable seats lefts others all)

no_events : (actors : List Actor) → map (λ (s : SeatEvents). s.actor) (map (λ a. seen_by a []) actors) ≡ actors
no_events [] = refl
no_events (a ∷ actors) = ap (λ (as_ : List Actor). a ∷ as_) (no_events actors)

-- drivers that began at the seats of a layout left one for each actor
pub one_each : (run : Run) (unwatched stoppable : Type 0) (lefts : List SeatEvents) (memory : Bool) → AllDrove run unwatched stoppable (map (λ a. seen_by a []) (actors_of run.layout)) lefts memory → IsOneEach run.layout lefts
one_each run unwatched stoppable lefts memory all =
    subst (λ (as_ : List Actor). IsPermutation as_ (actors_of run.layout)) (sym (same_actors run unwatched stoppable _ lefts memory all ∙ no_events (actors_of run.layout))) (IsPermutation-refl (actors_of run.layout))

-- seats of these actors without events
pub opened : {X : Type 0} (actor : X → Actor) (list : X → List Event) (seats : List X) (actors : List Actor) → map actor seats ≡ actors → map list seats ≡ map (λ _. []) actors → map (λ s. seen_by (actor s) (list s)) seats ≡ map (λ a. seen_by a []) actors
opened actor list [] [] is empty = refl
opened actor list [] (a ∷ actors) is empty = cc
opened actor list (s ∷ seats) [] is empty = cc
opened actor list (s ∷ seats) (a ∷ actors) is empty =
    ap (λ (b : Actor). seen_by b (list s) ∷ map (λ x. seen_by (actor x) (list x)) seats) (ap (λ (l : List Actor). get_or l 0 a) is)
    ∙ (ap (λ (es : List Event). seen_by a es ∷ map (λ x. seen_by (actor x) (list x)) seats) (ap (λ (l : List (List Event)). get_or l 0 []) empty)
    ∙ ap (λ (ts : List SeatEvents). seen_by a [] ∷ ts) (opened actor list seats actors (ap (drop 1) is) (ap (drop 1) empty)))
