-- The state of a pool after an answer that nothing is due, or that the run is over.
use Rattle.tw_host.proofs.Names.{Actor, AreTurns, Ask, Bool, Call, Closing, Control, Deliver, DoneView, End, Engine, Event, HasNextResult, HasState, HaveTargets, InState, IsNoTarget, IsOver, IsTurn, JobView, Kind, LacksWork, Leaf, Limit, List, Local, Makes, None, Option, PoolView, Release, Server, Some, State, Stopped, Take, TakesBack, TakesNone, Turn, Turns, TurnsUnless, Worker, [], and_parts, ap, append-nil, arith, closing_at, closing_of, cond, ending, entries, eq-eqb, eqb-true, false, find, get, get-entries, if◌then◌else◌, inl, inr, instr_after, is_idle, is_last, is_over_turn, issued_to, length, length-append, may_take, next_ask, next_release, not, number_in_kind, option_map, option_or, refl, same_Some, same_went, steps_of, subst, sym, true, with_events, ℕ, ◌&&◌, ◌++◌, ◌+◌, ◌==◌, ◌∙◌, ◌∷◌, ◌≡◌, ◌≢◌, ◌⊎◌}
use Rattle.std.specs.Ordering.{eq_by_cmp, nat_cmp}
use Rattle.tw_types.specs.Task.{Task, TaskOf, Tasks, best, best_of, better, is_eligible, is_for}
use Rattle.tw_code.specs.machine.Due.{IsDueFree, event_of, first_of, take_of}
use Rattle.tw_pool.specs.declared.answer.Turn.TheVariants as turn

pub none_appended : (p : PoolView) → with_events p [] ≡ p
none_appended p = ap (λ (h : List Event). record p { history = h }) (append-nil p.history)

only : (p : PoolView) (s t : State) → HasState p s → HasState p t → s ≡ t
only p s t here there = same_went s t (sym here ∙ there)

-- ---- a run that is over

some_or : (o : Option Closing) (stopped : Bool) (rest : Option Closing) → rest ≢ None → option_or o (if stopped then Some Stopped else rest) ≢ None
some_or None true rest some is = cc
some_or None false rest some is = some is
some_or (Some c) stopped rest some is = cc

at_limit : (n limit : ℕ) → n ≡ limit → (if n == limit then Some Limit else None) ≢ None
at_limit n limit is none = let no : Some Limit ≡ None = sym (ap (λ (b : Bool). if b then Some Limit else None) (eq-eqb n limit is)) ∙ none in cc

full : (p : PoolView) → length p.history ≡ p.limit → IsOver p
full p is s here = some_or (option_map closing_of (ending s)) p.stopped _ (at_limit (length p.history) p.limit is)

stopped_or : (o : Option Closing) (rest : Option Closing) → option_or o (if true then Some Stopped else rest) ≢ None
stopped_or None rest is = cc
stopped_or (Some c) rest is = cc

pub stopped : (p : PoolView) → p.stopped ≡ true → IsOver p
stopped p is s here none =
    stopped_or (option_map closing_of (ending s)) (if length p.history == p.limit then Some Limit else None)
    (ap (λ (b : Bool). option_or (option_map closing_of (ending s)) (if b then Some Stopped else (if length p.history == p.limit then Some Limit else None))) (sym is) ∙ none)

-- ---- what an answer says of the state after it

abbrev NothingDue : PoolView → Actor → Type 0
NothingDue p actor = InState p (λ s. (due : Event) → IsDueFree p.layout actor s due → ⊥)

abbrev Says : PoolView → Actor → Turn → Type 0
Says p actor (turn.Over closing) = IsOver p
Says p actor (turn.Foreign done) = Unit {0}
Says p actor turn.Owed = Unit {0}
Says p actor (turn.NoMemory given) = Unit {0}
Says p actor (turn.Run job) = Unit {0}
Says p actor turn.Ended = Unit {0}
Says p actor turn.Went = Unit {0}
Says p actor turn.Idle = NothingDue p actor

module _ (p : PoolView) (s : State) (here : HasState p s) (actor : Actor) (answer : Turn) (events : List Event) where
  abbrev Fine : Type 0
  Fine = Says (with_events p events) actor answer

  other : (wanted : Turn) → answer ≡ wanted → Says (with_events p events) actor wanted → Fine
  other wanted is says = subst (Says (with_events p events) actor) (sym is) says

  -- no event was appended
  none_new : events ≡ [] → with_events p events ≡ p
  none_new is = ap (with_events p) is ∙ none_appended p

  made : (given : Option DoneView) (es : List Event) (e : Event) → Makes p actor given es e answer events → Fine
  made given es (Take a) (inl l) = other (turn.Run l.2) l.4.0 tt
  made given es (Take a) (inr l) = other (turn.NoMemory given) l.1.0 tt
  made given es (Local _ _) l = elim l [ ]
  made given es (Call a) (inl l) = other (turn.Run l.2) l.4.0 tt
  made given es (Call a) (inr l) = other (turn.NoMemory given) l.1.0 tt
  made given es (End a) l = other turn.Ended l.0 tt
  made given es (Ask engine rule parameter) (inl l) = other turn.Went l.0 tt
  made given es (Ask engine rule parameter) (inr l) = other (turn.NoMemory given) l.1.0 tt
  made given es (Deliver server datum rule parameter) l = other turn.Went l.0 tt
  made given es (Release engine rule) (inl l) = other turn.Went l.0 tt
  made given es (Release engine rule) (inr l) = other (turn.NoMemory given) l.1.0 tt

  last_step : (done : DoneView) → is_last p done ≡ true → events ≡ steps_of actor done → length (with_events p events).history ≡ p.limit
  last_step done is appended = by (done.steps == 0) refl
    where
      by : (b : Bool) → (done.steps == 0) ≡ b → length (p.history ++ events) ≡ p.limit
      by true e = let no : false ≡ true = sym (ap (λ (b : Bool). not b && (length p.history + 1 == p.limit)) e) ∙ is in cc
      by false e =
          let full_now = eqb-true (length p.history + 1) p.limit (and_parts (not (done.steps == 0)) (length p.history + 1 == p.limit) is).1 in
          let one : length events ≡ 1 = ap length appended ∙ ap (λ (b : Bool). length (if b then [] else Local actor done.steps ∷ [])) e in
          omega (arith, length-append p.history events, one, full_now)

  taken_back : (short last : Bool) (done : DoneView) → is_last p done ≡ last → TakesBack short last p actor done answer events → Fine
  taken_back true last done is l = other (turn.Run l.2) l.4.0 tt
  taken_back false true done is l = other (turn.Over Limit) l.0 (full (with_events p events) (last_step done is l.1))
  taken_back false false done is l = made (Some done) (steps_of actor done) (event_of actor (instr_after p.program.program done)) l

  turned : (job : Option JobView) (given : Option DoneView) → Turns p s actor job given answer events → Fine
  turned None None (inl l) = made None [] l.0 l.3
  turned None None (inr l) = other turn.Idle l.1.0 (subst (λ (q : PoolView). NothingDue q actor) (sym (none_new l.1.1)) (λ t at. subst (λ (u : State). (due : Event) → IsDueFree p.layout actor u due → ⊥) (only p s t here at) l.0))
  turned None (Some done) l = other (turn.Foreign done) l.0 tt
  turned (Some job) None l = other turn.Owed l.0 tt
  turned (Some job) (Some done) (inl l) = taken_back done.short (is_last p done) done refl l.1
  turned (Some job) (Some done) (inr l) = other (turn.Foreign done) l.1.0 tt

  says : (closing : Option Closing) (given : Option DoneView) → closing_at p s ≡ closing → TurnsUnless closing p s actor given answer events → Fine
  says (Some closing) given is l =
      other (turn.Over closing) l.0 (subst IsOver (sym (none_new l.1)) (λ t at none. let no : Some closing ≡ None = sym is ∙ (ap (closing_at p) (only p s t here at) ∙ none) in cc))
  says None given is l = turned (issued_to p s actor) given l

  -- a run that is over stays as it is
  stays : (closing : Option Closing) (given : Option DoneView) → closing ≢ None → TurnsUnless closing p s actor given answer events → (is_over_turn answer ≡ true) × (events ≡ [])
  stays (Some closing) given some l = (ap is_over_turn l.0, l.1)
  stays None given some l = absurd (some refl)

pub answer_says : (old new : PoolView) (actor : Actor) (given : Option DoneView) (answer : Turn) → IsTurn old actor given answer new → Says new actor answer
answer_says old new actor given answer t = subst (λ (p : PoolView). Says p actor answer) (sym t.appended) (says old t.state t.has_state actor answer t.events (closing_at old t.state) given refl t.is)

pub answers_say : (before : List Turn) (old new : PoolView) (actor : Actor) (given : Option DoneView) (answer : Turn) → AreTurns old actor given before answer new → Says new actor answer
answers_say [] old new actor given answer t = answer_says old new actor given answer t
answers_say (first ∷ rest) old new actor given answer t = answers_say rest t.1 new actor t.0 answer t.4

no_next : (answer : Turn) (next : Option DoneView) → is_over_turn answer ≡ true → HasNextResult answer next → ⊥
no_next (turn.Over closing) next is on = on
no_next (turn.Foreign done) next is on = on
no_next turn.Owed next is on = on
no_next (turn.NoMemory given) next is on = on
no_next (turn.Run job) next is on = cc
no_next turn.Ended next is on = cc
no_next turn.Went next is on = cc
no_next turn.Idle next is on = on

over_one : (old new : PoolView) (actor : Actor) (given : Option DoneView) (answer : Turn) → IsOver old → IsTurn old actor given answer new → (is_over_turn answer ≡ true) × (new ≡ old)
over_one old new actor given answer over t =
    let same = stays old t.state t.has_state actor answer t.events (closing_at old t.state) given (over t.state t.has_state) t.is in
    (same.0, t.appended ∙ (ap (with_events old) same.1 ∙ none_appended old))

pub over_stays : (before : List Turn) (old new : PoolView) (actor : Actor) (given : Option DoneView) (answer : Turn) → IsOver old → AreTurns old actor given before answer new → (is_over_turn answer ≡ true) × (new ≡ old)
over_stays [] old new actor given answer over t = over_one old new actor given answer over t
over_stays (first ∷ rest) old new actor given answer over t = absurd (no_next first t.0 (over_one old t.1 actor given first over t.2).0 t.3)

-- ---- nothing is due

none_best : {A : Type 0} (actor : Actor) (es : List (ℕ × TaskOf A)) → best_of actor es ≡ None → (k : ℕ) (t : TaskOf A) → find nat_cmp k es ≡ Some t → is_eligible actor t ≡ false
none_best actor [] none k t e = cc
none_best actor (f ∷ es) none k t e = by (is_eligible actor f.1) (eq_by_cmp nat_cmp k f.0) refl refl (λ later there. none_best actor es later k t there)
  where
    by : (b c : Bool) → is_eligible actor f.1 ≡ b → eq_by_cmp nat_cmp k f.0 ≡ c → (best_of actor es ≡ None → find nat_cmp k es ≡ Some t → is_eligible actor t ≡ false) → is_eligible actor t ≡ false
    by true c p q rest = let no : Some (better f (best_of actor es)) ≡ None = sym (ap (λ (x : Bool). if x then Some (better f (best_of actor es)) else best_of actor es) p) ∙ none in cc
    by false true p q rest = ap (is_eligible actor) (sym (same_Some f.1 t (sym (ap (λ (x : Bool). cond x (Some f.1) (find nat_cmp k es)) q) ∙ e))) ∙ p
    by false false p q rest =
        rest (sym (ap (λ (x : Bool). if x then Some (better f (best_of actor es)) else best_of actor es) p) ∙ none) (sym (ap (λ (x : Bool). cond x (Some f.1) (find nat_cmp k es)) q) ∙ e)

not_eligible : (actor : Actor) (tasks : Tasks) → best actor tasks ≡ None → (k : ℕ) (t : Task) → get tasks k ≡ Some t → is_eligible actor t ≡ false
unfolding best
not_eligible actor tasks none k t e = none_best actor (entries tasks) none k t (sym (get-entries tasks k) ∙ e)

and_true : (a b : Bool) → a ≡ true → b ≡ true → (a && b) ≡ true
and_true a b p q = rw (p, q) refl

no_task : (actor : Actor) (tasks : Tasks) → best actor tasks ≡ None → IsNoTarget actor tasks
no_task actor tasks none k t e may is =
    let n = number_in_kind actor in
    let yes : is_eligible actor t ≡ true = and_true (may_take actor t.kind) (is_for t.target n) may (ap (λ (o : Option ℕ). is_for o n) is ∙ eq-eqb n n refl) in
    let no : true ≡ false = sym yes ∙ not_eligible actor tasks none k t e in
    cc

have_targets : (actor : Actor) (kind : Kind) (tasks : Tasks) → may_take actor kind ≡ true → best actor tasks ≡ None → HaveTargets kind tasks
have_targets actor kind tasks may none k t e of_kind is =
    let n = number_in_kind actor in
    let yes : is_eligible actor t ≡ true = and_true (may_take actor t.kind) (is_for t.target n) (ap (may_take actor) of_kind ∙ may) (ap (λ (o : Option ℕ). is_for o n) is) in
    let no : true ≡ false = sym yes ∙ not_eligible actor tasks none k t e in
    cc

no_first : (n : ℕ) (ask : Option (ℕ × ℕ)) (release : Option ℕ) (task : Option (ℕ × Task)) → ((due : Event) → first_of n ask release task ≡ Some due → ⊥) → (release ≡ None) × (task ≡ None)
no_first n (Some q) release task none = absurd (none (Ask n q.0 q.1) refl)
no_first n None (Some rule) task none = absurd (none (Release n rule) refl)
no_first n None None (Some t) none = absurd (none (Take (Engine n)) refl)
no_first n None None None none = (refl, refl)

no_take : (actor : Actor) (task : Option (ℕ × Task)) → ((due : Event) → take_of actor task ≡ Some due → ⊥) → task ≡ None
no_take actor (Some t) none = absurd (none (Take actor) refl)
no_take actor None none = refl

pub resting : (p : PoolView) (actor : Actor) → NothingDue p actor → LacksWork p actor × TakesNone p actor
resting p (Engine n) none = (
  (λ s at. let h = no_first n (next_ask n s.rules) (next_release n s.rules) (best (Engine n) s.tasks) (none s at) in (h.0, no_task (Engine n) s.tasks h.1)),
  (λ s at. let h = no_first n (next_ask n s.rules) (next_release n s.rules) (best (Engine n) s.tasks) (none s at) in have_targets (Engine n) Control s.tasks refl h.1),
)
resting p (Server n) none = ((λ s at x has own. none s at (Deliver n x.datum x.rule x.parameter) (record { notice = x; waits = has; own = own; is = refl })), tt)
resting p (Worker n) none = (
  (λ s at. no_task (Worker n) s.tasks (no_take (Worker n) (best (Worker n) s.tasks) (none s at))),
  (λ s at. have_targets (Worker n) Leaf s.tasks refl (no_take (Worker n) (best (Worker n) s.tasks) (none s at))),
)

pub idle_says : (before : List Turn) (old new : PoolView) (actor : Actor) (given : Option DoneView) (answer : Turn) → AreTurns old actor given before answer new → is_idle answer ≡ true → LacksWork new actor × TakesNone new actor
idle_says before old new actor given answer t is = resting new actor (by answer (answers_say before old new actor given answer t) is)
  where
    by : (a : Turn) → Says new actor a → is_idle a ≡ true → NothingDue new actor
    by (turn.Over closing) says e = cc
    by (turn.Foreign done) says e = cc
    by turn.Owed says e = cc
    by (turn.NoMemory given) says e = cc
    by (turn.Run job) says e = cc
    by turn.Ended says e = cc
    by turn.Went says e = cc
    by turn.Idle says e = says

pub over_says : (before : List Turn) (old new : PoolView) (actor : Actor) (given : Option DoneView) (answer : Turn) → AreTurns old actor given before answer new → is_over_turn answer ≡ true → IsOver new
over_says before old new actor given answer t is = by answer (answers_say before old new actor given answer t) is
  where
    by : (a : Turn) → Says new actor a → is_over_turn a ≡ true → IsOver new
    by (turn.Over closing) says e = says
    by (turn.Foreign done) says e = cc
    by turn.Owed says e = cc
    by (turn.NoMemory given) says e = cc
    by (turn.Run job) says e = cc
    by turn.Ended says e = cc
    by turn.Went says e = cc
    by turn.Idle says e = cc

-- an answer that nothing is due isn't that the run is over
pub idle_not_over : (answer : Turn) → is_idle answer ≡ true → is_over_turn answer ≡ true → ⊥
idle_not_over (turn.Over closing) is over = cc
idle_not_over (turn.Foreign done) is over = cc
idle_not_over turn.Owed is over = cc
idle_not_over (turn.NoMemory given) is over = cc
idle_not_over (turn.Run job) is over = cc
idle_not_over turn.Ended is over = cc
idle_not_over turn.Went is over = cc
idle_not_over turn.Idle is over = cc
