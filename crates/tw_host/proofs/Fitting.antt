-- The events of each line of the table of steps fit the limit.
use Rattle.tw_host.proofs.Names.{Actor, Ask, Bool, Call, Closing, Deliver, DoneView, End, Event, JobView, Limit, List, Local, Makes, None, Option, PoolView, Release, Some, State, Stopped, Take, TakesBack, Turn, Turns, TurnsUnless, [], ap, arith, closing_at, closing_of, ending, eqb-false, event_of, false, if◌then◌else◌, inl, inr, instr_after, is_last, issued_to, length, length-append, not, option_map, option_or, refl, steps_of, subst, sym, true, ◌&&◌, ◌++◌, ◌+◌, ◌<◌, ◌==◌, ◌∙◌, ◌∷◌, ◌≡◌, ◌≢◌, ◌≤◌}
use Rattle.tw_types.specs.declared.ending.Ending.{Ending}

abbrev Fits : PoolView → List Event → Type 0
Fits p events = length p.history + length events ≤ p.limit

module _ (p : PoolView) (answer : Turn) (events : List Event) where
  none : length p.history ≤ p.limit → events ≡ [] → Fits p events
  none within is = let n = ap length is in omega (arith, within, n)

  more : (es : List Event) (e : Event) → length p.history + length es < p.limit → events ≡ es ++ e ∷ [] → Fits p events
  more es e room is = let n = ap length is ∙ length-append es (e ∷ []) in omega (arith, room, n)

  within_of : (es : List Event) → length p.history + length es < p.limit → length p.history ≤ p.limit
  within_of es room = omega (arith, room)

  made : (actor : Actor) (given : Option DoneView) (es : List Event) (e : Event) → length p.history + length es < p.limit → Makes p actor given es e answer events → Fits p events
  made actor given es (Take a) room (inl l) = more es (Take a) room l.4.1
  made actor given es (Take a) room (inr l) = none (within_of es room) l.1.1
  made actor given es (Local _ _) room l = elim l [ ]
  made actor given es (Call a) room (inl l) = more es (Call a) room l.4.1
  made actor given es (Call a) room (inr l) = none (within_of es room) l.1.1
  made actor given es (End a) room l = more es (End a) room l.1
  made actor given es (Ask engine rule parameter) room (inl l) = more es (Ask engine rule parameter) room l.1
  made actor given es (Ask engine rule parameter) room (inr l) = none (within_of es room) l.1.1
  made actor given es (Deliver server datum rule parameter) room l = more es (Deliver server datum rule parameter) room l.1
  made actor given es (Release engine rule) room (inl l) = more es (Release engine rule) room l.1
  made actor given es (Release engine rule) room (inr l) = none (within_of es room) l.1.1

  -- ---- a Done

  steps_few : (actor : Actor) (done : DoneView) → length p.history < p.limit → Fits p (steps_of actor done)
  steps_few actor done room = by (done.steps == 0) refl
    where
      by : (b : Bool) → (done.steps == 0) ≡ b → Fits p (steps_of actor done)
      by true is = rw is (omega (arith, room))
      by false is = rw is (omega (arith, room))

  room_after : (actor : Actor) (done : DoneView) → length p.history < p.limit → is_last p done ≡ false → length p.history + length (steps_of actor done) < p.limit
  room_after actor done room last = by (done.steps == 0) refl (length p.history + 1 == p.limit) refl
    where
      by : (b : Bool) → (done.steps == 0) ≡ b → (c : Bool) → (length p.history + 1 == p.limit) ≡ c → length p.history + length (steps_of actor done) < p.limit
      by true is c at = rw is (omega (arith, room))
      by false is true at = let no : true ≡ false = sym (ap (λ b. not b && true) is) ∙ (sym (ap (λ c. not (done.steps == 0) && c) at) ∙ last) in cc
      by false is false at = let apart : length p.history + 1 ≢ p.limit = eqb-false (length p.history + 1) p.limit at in rw is (omega (arith, room, apart))

  taken_back : (actor : Actor) (short last : Bool) (done : DoneView) → is_last p done ≡ last → length p.history < p.limit → TakesBack short last p actor done answer events → Fits p events
  taken_back actor true last done is room l = subst (Fits p) (sym l.4.1) (steps_few actor done room)
  taken_back actor false true done is room l = subst (Fits p) (sym l.1) (steps_few actor done room)
  taken_back actor false false done is room l = made actor (Some done) (steps_of actor done) (event_of actor (instr_after p.program.program done)) (room_after actor done room is) l

  -- ---- all lines

  turned : (s : State) (actor : Actor) (job : Option JobView) (given : Option DoneView) → length p.history < p.limit → Turns p s actor job given answer events → Fits p events
  turned s actor None None room (inl l) = made actor None [] l.0 (omega (arith, room)) l.3
  turned s actor None None room (inr l) = none (omega (arith, room)) l.1.1
  turned s actor None (Some done) room l = none (omega (arith, room)) l.1
  turned s actor (Some job) None room l = none (omega (arith, room)) l.1
  turned s actor (Some job) (Some done) room (inl l) = taken_back actor done.short (is_last p done) done refl room l.1
  turned s actor (Some job) (Some done) room (inr l) = none (omega (arith, room)) l.1.1

  -- if the run isn't over there is room
  room_unless : (o : Option Ending) (stopped : Bool) → option_or (option_map closing_of o) (if stopped then Some Stopped else if length p.history == p.limit then Some Limit else None) ≡ None → length p.history ≢ p.limit
  room_unless (Some e) stopped is = cc
  room_unless None true is = cc
  room_unless None false is = by (length p.history == p.limit) refl
    where
      by : (b : Bool) → (length p.history == p.limit) ≡ b → length p.history ≢ p.limit
      by true at = let no : Some Limit ≡ None = sym (ap (λ b. if b then Some Limit else None) at) ∙ is in cc
      by false at = eqb-false (length p.history) p.limit at

  pub fits : (s : State) (actor : Actor) (closing : Option Closing) (given : Option DoneView) → closing_at p s ≡ closing → length p.history ≤ p.limit → TurnsUnless closing p s actor given answer events → Fits p events
  fits s actor (Some closing) given is within l = none within l.1
  fits s actor None given is within l =
      let apart = room_unless (ending s) p.stopped is in
      turned s actor (issued_to p s actor) given (omega (arith, within, apart)) l
