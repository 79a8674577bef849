-- Each line of the table appends at most two events, all of the actor that makes the step.
use Rattle.tw_pool.proofs.Names.{Actor, ActorCounts, AreOwn, Ask, Bool, Call, Closing, Deliver, DoneView, End, Engine, Event, Instr, IsDueFree, JobView, List, Local, Makes, None, Option, PoolView, Release, Server, Some, State, Submits, Take, TakesBack, Task, Turn, Turns, TurnsFree, TurnsUnless, Worker, [], actor_of, ap, arith, best, event_of, events_of, false, first_of, inl, inr, instr_after, is_last, issued_to, next_ask, next_release, refl, same_actor, steps_of, subst, sym, take_of, true, ℕ, ◌++◌, ◌==◌, ◌∙◌, ◌∷◌, ◌≡◌, ◌⊎◌}
use Rattle.tw_code.specs.declared.instr.Instr.TheVariants as instr
use Rattle.tw_pool.proofs.Counting.{itself}

-- ---- events of one actor

module _ (actor : Actor) where
  pub none : AreOwn actor []
  none = record { few = omega arith; own = refl }

  before : (e : Event) (es : List Event) → actor_of e ≡ actor → events_of actor es ≡ es → events_of actor (e ∷ es) ≡ e ∷ es
  before e es is own =
      let yes : same_actor (actor_of e) actor ≡ true = ap (λ a. same_actor a actor) is ∙ itself actor in
      rw yes (ap (λ x. e ∷ x) own)

  pub one : (e : Event) → actor_of e ≡ actor → AreOwn actor (e ∷ [])
  one e is = record { few = omega arith; own = before e [] is refl }

  two : (d e : Event) → actor_of d ≡ actor → actor_of e ≡ actor → AreOwn actor (d ∷ e ∷ [])
  two d e was is = record { few = omega arith; own = before d (e ∷ []) was (before e [] is refl) }

  pub steps_own : (done : DoneView) → AreOwn actor (steps_of actor done)
  steps_own done = by (done.steps == 0) refl
    where
      by : (b : Bool) → (done.steps == 0) ≡ b → AreOwn actor (steps_of actor done)
      by true is = rw is none
      by false is = rw is (one (Local actor done.steps) refl)

  own_after : (done : DoneView) (e : Event) → actor_of e ≡ actor → AreOwn actor (steps_of actor done ++ e ∷ [])
  own_after done e is = by (done.steps == 0) refl
    where
      by : (b : Bool) → (done.steps == 0) ≡ b → AreOwn actor (steps_of actor done ++ e ∷ [])
      by true zero_is = rw zero_is (one e is)
      by false zero_is = rw zero_is (two (Local actor done.steps) e refl is)

-- ---- the lines

made : (p : PoolView) (actor : Actor) (given : Option DoneView) (es : List Event) (e : Event) (answer : Turn) (events : List Event) → Makes p actor given es e answer events → (events ≡ []) ⊎ (events ≡ es ++ e ∷ [])
made p actor given es (Take a) answer events (inl l) = inr l.4.1
made p actor given es (Take a) answer events (inr l) = inl l.1.1
made p actor given es (Local _ _) answer events l = elim l [ ]
made p actor given es (Call a) answer events (inl l) = inr l.4.1
made p actor given es (Call a) answer events (inr l) = inl l.1.1
made p actor given es (End a) answer events l = inr l.1
made p actor given es (Ask engine rule parameter) answer events (inl l) = inr l.1
made p actor given es (Ask engine rule parameter) answer events (inr l) = inl l.1.1
made p actor given es (Deliver server datum rule parameter) answer events l = inr l.1
made p actor given es (Release engine rule) answer events (inl l) = inr l.1
made p actor given es (Release engine rule) answer events (inr l) = inl l.1.1

actor_of_next : (actor : Actor) (i : Option Instr) → actor_of (event_of actor i) ≡ actor
actor_of_next actor None = refl
actor_of_next actor (Some (instr.Local i)) = refl
actor_of_next actor (Some (instr.Data i)) = refl
actor_of_next actor (Some (instr.Rule action)) = refl
actor_of_next actor (Some (instr.Put action)) = refl
actor_of_next actor (Some instr.Ret) = refl

whose_task : (actor : Actor) (task : Option (ℕ × Task)) (e : Event) → take_of actor task ≡ Some e → actor_of e ≡ actor
whose_task actor None e is = cc
whose_task actor (Some task) e is = let same : Take actor ≡ e = cc in subst (λ x. actor_of x ≡ actor) same refl

whose_first : (engine : ℕ) (ask : Option (ℕ × ℕ)) (release : Option ℕ) (task : Option (ℕ × Task)) (e : Event) → first_of engine ask release task ≡ Some e → actor_of e ≡ Engine engine
whose_first engine (Some q) release task e is = let same : Ask engine q.0 q.1 ≡ e = cc in subst (λ x. actor_of x ≡ Engine engine) same refl
whose_first engine None (Some rule) task e is = let same : Release engine rule ≡ e = cc in subst (λ x. actor_of x ≡ Engine engine) same refl
whose_first engine None None task e is = whose_task (Engine engine) task e is

pub whose_due : (layout : ActorCounts) (actor : Actor) (s : State) (e : Event) → IsDueFree layout actor s e → actor_of e ≡ actor
whose_due layout (Engine engine) s e due = whose_first engine (next_ask engine s.rules) (next_release engine s.rules) (best (Engine engine) s.tasks) e due
whose_due layout (Server server) s e due = subst (λ x. actor_of x ≡ Server server) (sym due.is) refl
whose_due layout (Worker worker) s e due = whose_task (Worker worker) (best (Worker worker) s.tasks) e due

module _ (p : PoolView) (s : State) (actor : Actor) (answer : Turn) (events : List Event) where
  none_then : events ≡ [] → AreOwn actor events
  none_then is = subst (AreOwn actor) (sym is) (none actor)

  taken_back : (short last : Bool) (done : DoneView) → TakesBack short last p actor done answer events → AreOwn actor events
  taken_back true last done l = subst (AreOwn actor) (sym l.4.1) (steps_own actor done)
  taken_back false true done l = subst (AreOwn actor) (sym l.1) (steps_own actor done)
  taken_back false false done l = by (made p actor (Some done) (steps_of actor done) (event_of actor (instr_after p.program.program done)) answer events l)
    where
      by : (events ≡ []) ⊎ (events ≡ steps_of actor done ++ event_of actor (instr_after p.program.program done) ∷ []) → AreOwn actor events
      by (inl is) = none_then is
      by (inr is) = subst (AreOwn actor) (sym is) (own_after actor done (event_of actor (instr_after p.program.program done)) (actor_of_next actor (instr_after p.program.program done)))

  free : TurnsFree p s actor answer events → AreOwn actor events
  free (inl l) = by (made p actor None [] l.0 answer events l.3)
    where
      by : (events ≡ []) ⊎ (events ≡ l.0 ∷ []) → AreOwn actor events
      by (inl is) = none_then is
      by (inr is) = subst (AreOwn actor) (sym is) (one actor l.0 (whose_due p.layout actor s l.0 l.1))
  free (inr l) = none_then l.1.1

  handed : (job : JobView) (done : DoneView) → Submits p actor job done answer events → AreOwn actor events
  handed job done (inl l) = taken_back done.short (is_last p done) done l.1
  handed job done (inr l) = none_then l.1.1

  turned : (job : Option JobView) (given : Option DoneView) → Turns p s actor job given answer events → AreOwn actor events
  turned None None l = free l
  turned None (Some done) l = none_then l.1
  turned (Some job) None l = none_then l.1
  turned (Some job) (Some done) l = handed job done l

  pub own_events : (closing : Option Closing) (given : Option DoneView) → TurnsUnless closing p s actor given answer events → AreOwn actor events
  own_events (Some closing) given l = none_then l.1
  own_events None given l = turned (issued_to p s actor) given l
