-- The result of a step in which an actor submits what it has.
use Rattle.tw_in_turn.proofs.Names.{Actor, Answers, AreBy, Bool, Closing, Continues, ContinuesOrEnds, DoneView, End as Stop, Ending, Event, Frame, Has, HasDone, HasEnded, HasState, IfSome, Instr, IsAfter, IsDone, IsDueFree, IsGrown, IsIdle, IsMove, IsOver, IsOwedBy, IsReachedWith, IsTurn, IsTurned, IsWorkOf, Issues, JobView, Keeps, List, Makes, None, Option, PoolView, Some, State, TakesBack, Turn, Turns, TurnsFree, TurnsUnless, Went as Gone, [], and_parts, ap, append-nil, arith, closing_at, closing_of, ending, eq-eqb, eqb-true, event_of, events_of, false, get, if◌then◌else◌, inl, inr, instr_after, is_last, issued_to, length, length-append, not, opening, option_map, option_or, others_same, refl, run, same_went, step, steps_of, subst, suc, sym, true, with_events, zero, ℕ, ◌++◌, ◌+◌, ◌==◌, ◌∙◌, ◌∷◌, ◌≡◌, ◌≢◌, ◌≤◌, ◌⊎◌}
use Rattle.tw_types.specs.declared.ending.Ending.TheVariants as ending
use Rattle.tw_types.specs.declared.event.Event.TheVariants.{Take, Local, Call, End, Ask, Deliver, Release}
use Rattle.tw_code.specs.declared.instr.Instr.TheVariants as instr
use Rattle.tw_pool.specs.declared.answer.Closing.TheVariants.{Limit, Stopped}
use Rattle.tw_pool.specs.declared.answer.Turn.TheVariants.{Over, Foreign, Owed, NoMemory, Run, Ended, Went, Idle}
use Rattle.tw_pool.proofs.Lines.{whose_due}
use Rattle.tw_host.specs.Sees.{IsAnswerOf, IsDoneOf}
use Rattle.tw_host.proofs.Owning.{is_answer_of}
use Rattle.tw_host.proofs.Turning as turning
use Rattle.tw_in_turn.proofs.Frames as frames

-- an event of rules or notices
abbrev pub IsOfRules : Event → Type 0
IsOfRules (Take a) = ⊥
IsOfRules (Local a steps) = ⊥
IsOfRules (Call a) = ⊥
IsOfRules (End a) = ⊥
IsOfRules (Ask engine rule parameter) = Unit {0}
IsOfRules (Deliver server datum rule parameter) = Unit {0}
IsOfRules (Release engine rule) = Unit {0}

pub data CameTo (old : PoolView) (s : State) (actor : Actor) (given : Option DoneView) (answer : Turn) (events : List Event) : Type 0 where
  over : (closing : Closing) → closing_at old s ≡ Some closing → answer ≡ Over closing → events ≡ [] → CameTo old s actor given answer events
  full : answer ≡ Over Limit → length old.history + length events ≡ old.limit → CameTo old s actor given answer events
  lent : (t : State) → HasState (with_events old events) t → (job : JobView) → issued_to (with_events old events) t actor ≡ Some job → answer ≡ Run job → 1 ≤ length events → CameTo old s actor given answer events
  ended : (before : List Event) → answer ≡ Ended → events ≡ before ++ End actor ∷ [] → CameTo old s actor given answer events
  went : (e : Event) → IsOfRules e → answer ≡ Went → events ≡ e ∷ [] → issued_to old s actor ≡ None → CameTo old s actor given answer events
  idle : answer ≡ Idle → events ≡ [] → issued_to old s actor ≡ None → ((due : Event) → IsDueFree old.layout actor s due → ⊥) → closing_at old s ≡ None → CameTo old s actor given answer events
  refused : answer ≡ NoMemory given → events ≡ [] → CameTo old s actor given answer events

-- ---- by the lines of the table

module _ (old : PoolView) (s : State) (actor : Actor) (answer : Turn) (events : List Event) where
  abbrev Came : Option DoneView → Type 0
  Came given = CameTo old s actor given answer events

  lends : (given : Option DoneView) (es : List Event) (e : Event) → Issues old actor (es ++ e ∷ []) answer events → Came given
  lends given es e l =
      lent l.0 (subst (λ x. HasState (with_events old x) l.0) (sym l.4.1) l.1) l.2 (subst (λ x. issued_to (with_events old x) l.0 actor ≡ Some l.2) (sym l.4.1) l.3) l.4.0
      (let n = ap (λ x. length x) l.4.1 ∙ length-append es (e ∷ []) in omega (arith, n))

  run_after : (given : Option DoneView) (es : List Event) (i : Option Instr) → Makes old actor given es (event_of actor i) answer events → Came given
  run_after given es None (inl l) = lends given es (Call actor) l
  run_after given es None (inr l) = refused l.1.0 l.1.1
  run_after given es (Some (instr.Local i)) l = elim l [ ]
  run_after given es (Some (instr.Data i)) (inl l) = lends given es (Call actor) l
  run_after given es (Some (instr.Data i)) (inr l) = refused l.1.0 l.1.1
  run_after given es (Some (instr.Rule action)) (inl l) = lends given es (Call actor) l
  run_after given es (Some (instr.Rule action)) (inr l) = refused l.1.0 l.1.1
  run_after given es (Some (instr.Put action)) (inl l) = lends given es (Call actor) l
  run_after given es (Some (instr.Put action)) (inr l) = refused l.1.0 l.1.1
  run_after given es (Some instr.Ret) l = ended es l.0 l.1

  due_made : (e : Event) → IsDueFree old.layout actor s e → issued_to old s actor ≡ None → Makes old actor None [] e answer events → Came None
  due_made (Take a) due none (inl l) = lends None [] (Take a) l
  due_made (Take a) due none (inr l) = refused l.1.0 l.1.1
  due_made (Local a n) due none l = elim l [ ]
  due_made (Call a) due none (inl l) = lends None [] (Call a) l
  due_made (Call a) due none (inr l) = refused l.1.0 l.1.1
  due_made (End a) due none l = ended [] l.0 (l.1 ∙ ap (λ x. End x ∷ []) (whose_due old.layout actor s (End a) due))
  due_made (Ask engine rule parameter) due none (inl l) = went (Ask engine rule parameter) tt l.0 l.1 none
  due_made (Ask engine rule parameter) due none (inr l) = refused l.1.0 l.1.1
  due_made (Deliver server datum rule parameter) due none l = went (Deliver server datum rule parameter) tt l.0 l.1 none
  due_made (Release engine rule) due none (inl l) = went (Release engine rule) tt l.0 l.1 none
  due_made (Release engine rule) due none (inr l) = refused l.1.0 l.1.1

  goes_free : closing_at old s ≡ None → issued_to old s actor ≡ None → TurnsFree old s actor answer events → Came None
  goes_free runs_on none (inl l) = due_made l.0 l.1 none l.3
  goes_free runs_on none (inr l) = idle l.1.0 l.1.1 none l.0 runs_on

  some_steps : (done : DoneView) → (done.steps == 0) ≡ false → length (steps_of actor done) ≡ 1
  some_steps done some = rw some refl

  unset : (b : Bool) → not b ≡ true → b ≡ false
  unset true e = cc
  unset false e = refl

  taken_back : (done : DoneView) (last : Bool) → is_last old done ≡ last → TakesBack false last old actor done answer events → Came (Some done)
  taken_back done true is l =
      let both = and_parts (not (done.steps == 0)) (length old.history + 1 == old.limit) is in
      let one = some_steps done (unset (done.steps == 0) both.0) in
      let long = ap (λ x. length x) l.1 in
      let limit = eqb-true (length old.history + 1) old.limit both.1 in
      full l.0 (omega (arith, one, long, limit))
  taken_back done false is l = run_after (Some done) (steps_of actor done) (instr_after old.program.program done) l

  turned : closing_at old s ≡ None → (job : Option JobView) → issued_to old s actor ≡ job → (given : Option DoneView) → HasDone job given → Turns old s actor job given answer events → Came given
  turned runs_on None is None has l = goes_free runs_on is l
  turned runs_on None is (Some done) has l = let no_done : Some done ≡ None = has in cc
  turned runs_on (Some job) is None has l = absurd has
  turned runs_on (Some job) is (Some done) has (inl l) = taken_back done (is_last old done) refl (subst (λ b. TakesBack b (is_last old done) old actor done answer events) has.short_is l.1)
  turned runs_on (Some job) is (Some done) has (inr l) = absurd (l.0 has.own)

  pub came_to : (closing : Option Closing) → closing_at old s ≡ closing → (given : Option DoneView) → HasDone (issued_to old s actor) given → TurnsUnless closing old s actor given answer events → Came given
  came_to (Some closing) is given has l = over closing is l.0 l.1
  came_to None is given has l = turned is (issued_to old s actor) refl given has l

-- ---- why a run is over

ended_by : (e : Option Ending) (stopped filled : Bool) → stopped ≡ false → option_or (option_map closing_of e) (if stopped then Some Stopped else if filled then Some Limit else None) ≢ None
    → HasEnded (option_or (option_map closing_of e) (if stopped then Some Stopped else if filled then Some Limit else None))
ended_by (Some ending.Quiet) stopped filled on some = tt
ended_by (Some (ending.Stuck n)) stopped filled on some = tt
ended_by None true filled on some = let no_one : true ≡ false = on in cc
ended_by None false true on some = tt
ended_by None false false on some = some refl

pub ends_if : (p : PoolView) (s : State) → p.stopped ≡ false → closing_at p s ≢ None → HasEnded (closing_at p s)
ends_if p s on some = ended_by (ending s) p.stopped (length p.history == p.limit) on some

full_by : (e : Option Ending) (stopped filled : Bool) → filled ≡ true → option_or (option_map closing_of e) (if stopped then Some Stopped else if filled then Some Limit else None) ≢ None
full_by (Some e) stopped filled is = λ none. let no_one : Some (closing_of e) ≡ None = none in cc
full_by None true filled is = λ none. let no_one : Some Stopped ≡ None = none in cc
full_by None false true is = λ none. let no_one : Some Limit ≡ None = none in cc
full_by None false false is = λ none. let no_one : false ≡ true = is in cc

pub full_closes : (p : PoolView) (s : State) → length p.history ≡ p.limit → closing_at p s ≢ None
full_closes p s is = full_by (ending s) p.stopped (length p.history == p.limit) (eq-eqb (length p.history) p.limit is)

-- ---- a turn

abbrev job_by : PoolView → ℕ → Actor → Frame → JobView
job_by p n actor f = record { program = p.program; task = f.task; procedure = f.procedure; actor = actor; event_no = n; position = f.position }

no_frame : (p : PoolView) (n : ℕ) (actor : Actor) (o : Option Frame) → option_map (job_by p n actor) o ≡ None → o ≡ None
no_frame p n actor None is = refl
no_frame p n actor (Some f) is = cc

pub without_frame : (p : PoolView) (s : State) (actor : Actor) → issued_to p s actor ≡ None → get s.frames actor ≡ None
without_frame p s actor none = no_frame p (length (events_of actor p.history)) actor (get s.frames actor) none

pub issued_none : (p : PoolView) (s : State) (actor : Actor) → get s.frames actor ≡ None → issued_to p s actor ≡ None
issued_none p s actor none = ap (option_map (job_by p (length (events_of actor p.history)) actor)) none

-- what an actor has is of the job that is issued to it
job_is : (job : Option JobView) (done : DoneView) → HasDone job (Some done) → job ≡ Some done.before
job_is None done has = let no_done : Some done ≡ None = has in cc
job_is (Some job) done has = ap Some (sym has.own)

pub owed_if : (p : PoolView) (actor : Actor) (given : Option DoneView) → Has p actor given → IfSome given (λ done. IsOwedBy p actor done)
owed_if p actor None has = tt
owed_if p actor (Some done) has = λ s at. job_is (issued_to p s actor) done (has s at)

-- the step of an idle actor
pub idle_move : (p : PoolView) (actor : Actor) → IsIdle p actor → IsMove p actor Idle p
idle_move p actor still = record {
  given = None;
  has = λ s at. subst (λ (o : Option JobView). HasDone o None) (sym (issued_none p s actor (free_at s at))) refl;
  turn = record {
    state = still.state;
    has_state = still.has_state;
    events = [];
    is = subst (λ (c : Option Closing). TurnsUnless c p still.state actor None Idle []) (sym still.runs_on)
        (subst (λ (job : Option JobView). Turns p still.state actor job None Idle []) (sym (issued_none p still.state actor still.free)) (inr (still.none_due, (refl, refl))));
    appended = sym (ap (λ (h : List Event). record p { history = h }) (append-nil p.history));
  };
}
  where
    free_at : (s : State) → HasState p s → get s.frames actor ≡ None
    free_at s at = ap (λ (t : State). get t.frames actor) (same_went s still.state (sym at ∙ still.has_state)) ∙ still.free

-- results that issue no job
abbrev pub Rests : Turn → Type 0
Rests (Over closing) = ⊥
Rests (Foreign done) = ⊥
Rests Owed = ⊥
Rests (NoMemory given) = ⊥
Rests (Run job) = ⊥
Rests Ended = Unit {0}
Rests Went = Unit {0}
Rests Idle = Unit {0}

pub rests_of : (answer : Turn) → (answer ≡ Ended) ⊎ ((answer ≡ Went) ⊎ (answer ≡ Idle)) → Rests answer
rests_of answer (inl is) = subst Rests (sym is) tt
rests_of answer (inr (inl is)) = subst Rests (sym is) tt
rests_of answer (inr (inr is)) = subst Rests (sym is) tt

pub goes_on : (answer : Turn) → Rests answer → Continues answer
goes_on (Over closing) rests = rests
goes_on (Foreign done) rests = rests
goes_on Owed rests = rests
goes_on (NoMemory given) rests = rests
goes_on (Run job) rests = tt
goes_on Ended rests = tt
goes_on Went rests = tt
goes_on Idle rests = tt

-- the result of a job
pub work_of : (job : JobView) (done : DoneView) (short : Bool) → done.before ≡ job → done.short ≡ short
    → IsDone done.before.program.program done.before.procedure done.before.position done.after done.steps done.short → IsWorkOf job short done
work_of job done short own is d = record {
  own = own;
  short_is = is;
  is_done = subst (λ b. IsDone job.program.program job.procedure job.position done.after done.steps b) is
      (subst (λ (j : JobView). IsDone j.program.program j.procedure j.position done.after done.steps done.short) own d);
}

module _ (old new : PoolView) (actor : Actor) (given : Option DoneView) (answer : Turn) (turn : IsTurn old actor given answer new) (has : Has old actor given) where
  abbrev s : State
  s = turn.state

  pub came : CameTo old s actor given answer turn.events
  came = came_to old s actor answer turn.events (closing_at old s) refl given (has s turn.has_state) turn.is

  own : AreBy actor turn.events
  own = frames.all_by actor turn.events (turning.own old new actor given answer turn).own

  program_same : new.program ≡ old.program
  program_same = ap (λ (p : PoolView). p.program) turn.appended

  -- the events lead from the one state to the other
  leads : (t : State) → HasState new t → run old.program.program old.layout turn.events s ≡ Gone t
  leads t has = frames.run_after old.program.program old.layout old.history turn.events (opening old.program.program old.inputs) s t turn.has_state (subst (λ (p : PoolView). HasState p t) turn.appended has)

  pub grown : length old.history ≤ old.limit → IsGrown old new
  grown low = record {
    same = turn.appended ∙ ap (λ (h : List Event). record old { history = h }) (sym (ap (λ (p : PoolView). p.history) turn.appended));
    within = turning.within old new actor given answer turn low;
  }

  -- the other actors keep what they have
  pub others_keep : (other : Actor) (kept : Option DoneView) → other ≢ actor → Keeps old other kept → Keeps new other kept
  others_keep other kept apart k = record {
    has = λ t has. subst (λ (job : Option JobView). HasDone job kept) (sym (same t has)) (k.has s turn.has_state);
    program = subst (λ program. IsDoneOf program kept) (sym program_same) k.program;
  }
    where
      same : (t : State) → HasState new t → issued_to new t other ≡ issued_to old s other
      same t has =
          let frame = frames.others_all old.program.program old.layout actor other apart turn.events s t own (leads t has) in
          let count = others_same other actor apart old.history turn.events own in
          ap (λ (p : PoolView). issued_to p t other) turn.appended ∙ (ap (λ n. option_map (job_by old n other) (get t.frames other)) count ∙ ap (option_map (job_by old (length (events_of other old.history)) other)) frame)

  -- ---- after a job

  pub keeps_work : IsDoneOf old.program given → (job : JobView) (done : DoneView) → answer ≡ Run job → IsWorkOf job false done → Keeps new actor (Some done)
  keeps_work owned job done is work = record {
    has = λ t at. by came t at;
    program = subst (λ program. IsDoneOf program (Some done)) (sym program_same) (ap (λ (j : JobView). j.program) work.own ∙ subst (λ (a : Turn). IsAnswerOf old.program a) is (is_answer_of old new actor given answer turn owned));
  }
    where
      by : CameTo old s actor given answer turn.events → (t : State) → HasState new t → HasDone (issued_to new t actor) (Some done)
      by (over closing at a e) t has = let no_run : Over closing ≡ Run job = sym a ∙ is in cc
      by (full a e) t has = let no_run : Over Limit ≡ Run job = sym a ∙ is in cc
      by (lent u at j there a some) t has =
          let same : u ≡ t = same_went u t (sym at ∙ subst (λ (p : PoolView). HasState p t) turn.appended has) in
          let job_is : j ≡ job = (let r : Run j ≡ Run job = sym a ∙ is in cc) in
          let now : issued_to new t actor ≡ Some job = ap (λ (p : PoolView). issued_to p t actor) turn.appended ∙ (ap (λ x. issued_to (with_events old turn.events) x actor) (sym same) ∙ (there ∙ ap Some job_is)) in
          subst (λ (o : Option JobView). HasDone o (Some done)) (sym now) work
      by (ended before a e) t has = let no_run : Ended ≡ Run job = sym a ∙ is in cc
      by (went e rules a es none) t has = let no_run : Went ≡ Run job = sym a ∙ is in cc
      by (idle a e none nothing runs_on) t has = let no_run : Idle ≡ Run job = sym a ∙ is in cc
      by (refused a e) t has = let no_run : NoMemory given ≡ Run job = sym a ∙ is in cc

  -- ---- after a result that issues none

  last_step : (es : List Event) (e : Event) (a b : State) → run old.program.program old.layout (es ++ e ∷ []) a ≡ Gone b → (u : State) × (step old.program.program old.layout e u ≡ Gone b)
  last_step [] e a b f = (a, frames.only_one old.program.program old.layout e a b f)
  last_step (x ∷ es) e a b f = let one = frames.first_of old.program.program old.layout x (es ++ e ∷ []) a b f in last_step es e one.0 b one.2

  of_rules : (e : Event) → IsOfRules e → (t : State) → step old.program.program old.layout e s ≡ Gone t → t.frames ≡ s.frames
  of_rules (Take a) rules t f = absurd rules
  of_rules (Local a n) rules t f = absurd rules
  of_rules (Call a) rules t f = absurd rules
  of_rules (End a) rules t f = absurd rules
  of_rules (Ask engine rule parameter) rules t f = frames.ask_same old.program.program old.layout s t engine rule parameter f
  of_rules (Deliver server datum rule parameter) rules t f = frames.deliver_same old.program.program old.layout s t server datum rule parameter f
  of_rules (Release engine rule) rules t f = frames.release_same old.program.program old.layout s t engine rule f

  pub keeps_none : Rests answer → Keeps new actor None
  keeps_none rests = record { has = λ t has. subst (λ (o : Option JobView). HasDone o None) (sym (issued_none new t actor (by came t (leads t has)))) refl; program = tt }
    where
      by : CameTo old s actor given answer turn.events → (t : State) → run old.program.program old.layout turn.events s ≡ Gone t → get t.frames actor ≡ None
      by (over closing at a e) t f = absurd (subst Rests a rests)
      by (full a e) t f = absurd (subst Rests a rests)
      by (lent u at j there a some) t f = absurd (subst Rests a rests)
      by (ended before a e) t f =
          let last = last_step before (End actor) s t (subst (λ x. run old.program.program old.layout x s ≡ Gone t) e f) in
          frames.ended old.program.program old.layout last.0 t actor last.1
      by (went e rules a es none) t f =
          let one = frames.only_one old.program.program old.layout e s t (subst (λ x. run old.program.program old.layout x s ≡ Gone t) es f) in
          ap (λ m. get m actor) (of_rules e rules t one) ∙ without_frame old s actor none
      by (idle a e none nothing runs_on) t f =
          let same = frames.nothing old.program.program old.layout s t (subst (λ x. run old.program.program old.layout x s ≡ Gone t) e f) in
          ap (λ (x : State). get x.frames actor) (sym same) ∙ without_frame old s actor none
      by (refused a e) t f = absurd (subst Rests a rests)

  -- ---- answers that don't come

  pub never_foreign : (done : DoneView) → answer ≡ Foreign done → ⊥
  never_foreign done is = by came
    where
      by : CameTo old s actor given answer turn.events → ⊥
      by (over closing at a e) = let no_one : Over closing ≡ Foreign done = sym a ∙ is in cc
      by (full a e) = let no_one : Over Limit ≡ Foreign done = sym a ∙ is in cc
      by (lent u at j there a some) = let no_one : Run j ≡ Foreign done = sym a ∙ is in cc
      by (ended before a e) = let no_one : Ended ≡ Foreign done = sym a ∙ is in cc
      by (went e rules a es none) = let no_one : Went ≡ Foreign done = sym a ∙ is in cc
      by (idle a e none nothing runs_on) = let no_one : Idle ≡ Foreign done = sym a ∙ is in cc
      by (refused a e) = let no_one : NoMemory given ≡ Foreign done = sym a ∙ is in cc

  pub never_owed : answer ≡ Owed → ⊥
  never_owed is = by came
    where
      by : CameTo old s actor given answer turn.events → ⊥
      by (over closing at a e) = let no_one : Over closing ≡ Owed = sym a ∙ is in cc
      by (full a e) = let no_one : Over Limit ≡ Owed = sym a ∙ is in cc
      by (lent u at j there a some) = let no_one : Run j ≡ Owed = sym a ∙ is in cc
      by (ended before a e) = let no_one : Ended ≡ Owed = sym a ∙ is in cc
      by (went e rules a es none) = let no_one : Went ≡ Owed = sym a ∙ is in cc
      by (idle a e none nothing runs_on) = let no_one : Idle ≡ Owed = sym a ∙ is in cc
      by (refused a e) = let no_one : NoMemory given ≡ Owed = sym a ∙ is in cc

  -- ---- no event

  pub new_length : length new.history ≡ length old.history + length turn.events
  new_length = turning.longer old new actor given answer turn

  -- a step that isn't the last makes an event, or nothing changes and the actor is idle
  pub more_or_idle : Continues answer → (length old.history + 1 ≤ length new.history) ⊎ ((new ≡ old) × IsIdle old actor)
  more_or_idle on = by came
    where
      by : CameTo old s actor given answer turn.events → (length old.history + 1 ≤ length new.history) ⊎ ((new ≡ old) × IsIdle old actor)
      by (over closing at a e) = absurd (subst Continues a on)
      by (full a e) = absurd (subst Continues a on)
      by (lent u at j there a some) = inl (omega (arith, some, new_length))
      by (ended before a e) = let n = ap (λ x. length x) e ∙ length-append before (End actor ∷ []) in inl (omega (arith, n, new_length))
      by (went e rules a es none) = let n = ap (λ x. length x) es in inl (omega (arith, n, new_length))
      by (idle a e none nothing runs_on) = inr (
        turn.appended ∙ (ap (with_events old) e ∙ ap (λ (h : List Event). record old { history = h }) (append-nil old.history)),
        record { state = s; has_state = turn.has_state; free = without_frame old s actor none; none_due = nothing; runs_on = runs_on },
      )
      by (refused a e) = absurd (subst Continues a on)

  -- an idle actor makes no event
  pub idle_answer : IsIdle old actor → Answers Idle [] answer turn.events
  idle_answer i =
      let same : i.state ≡ s = same_went i.state s (sym i.has_state ∙ turn.has_state) in
      let runs_on : closing_at old s ≡ None = subst (λ (t : State). closing_at old t ≡ None) same i.runs_on in
      let none : issued_to old s actor ≡ None = issued_none old s actor (subst (λ (t : State). get t.frames actor ≡ None) same i.free) in
      let nothing : given ≡ None = subst (λ (job : Option JobView). HasDone job given) none (has s turn.has_state) in
      let open_line = subst (λ (c : Option Closing). TurnsUnless c old s actor given answer turn.events) runs_on turn.is in
      let free_line = subst (λ (job : Option JobView). Turns old s actor job given answer turn.events) none open_line in
      by (subst (λ (t : State). (due : Event) → IsDueFree old.layout actor t due → ⊥) same i.none_due) (subst (λ (o : Option DoneView). Turns old s actor None o answer turn.events) nothing free_line)
    where
      by : ((due : Event) → IsDueFree old.layout actor s due → ⊥) → TurnsFree old s actor answer turn.events → Answers Idle [] answer turn.events
      by none (inl l) = absurd (none l.0 l.1)
      by none (inr l) = l.1

  pub turned_is : length old.history ≤ old.limit → (kept : Option DoneView) (end : Option Stop) → ContinuesOrEnds new actor answer kept end → IsTurned old actor new kept end
  turned_is low kept end comes = record {
    answer = answer;
    move = record { given = given; has = has; turn = turn };
    comes = comes;
    others = others_keep;
    more = more_or_idle;
    grown = grown low;
  }

  -- ---- the last turn

  pub over_ends : old.stopped ≡ false → (closing : Closing) → answer ≡ Over closing → (t : State) → HasState new t → HasEnded (closing_at new t)
  over_ends on closing is t has = by came
    where
      still : new.stopped ≡ false
      still = ap (λ (p : PoolView). p.stopped) turn.appended ∙ on

      by : CameTo old s actor given answer turn.events → HasEnded (closing_at new t)
      by (over c at a e) =
          let same_pool : new ≡ old = turn.appended ∙ (ap (with_events old) e ∙ ap (λ (h : List Event). record old { history = h }) (append-nil old.history)) in
          let same_state : s ≡ t = same_went s t (sym turn.has_state ∙ subst (λ (p : PoolView). HasState p t) same_pool has) in
          let now : closing_at new t ≡ Some c = ap (λ (p : PoolView). closing_at p t) same_pool ∙ (ap (closing_at old) (sym same_state) ∙ at) in
          ends_if new t still (λ none. let no_one : Some c ≡ None = sym now ∙ none in cc)
      by (full a e) =
          let limit = ap (λ (p : PoolView). p.limit) turn.appended in
          ends_if new t still (full_closes new t (omega (arith, e, limit, new_length)))
      by (lent u at j there a some) = let no_one : Run j ≡ Over closing = sym a ∙ is in cc
      by (ended before a e) = let no_one : Ended ≡ Over closing = sym a ∙ is in cc
      by (went e rules a es none) = let no_one : Went ≡ Over closing = sym a ∙ is in cc
      by (idle a e none nothing runs_on) = let no_one : Idle ≡ Over closing = sym a ∙ is in cc
      by (refused a e) = let no_one : NoMemory given ≡ Over closing = sym a ∙ is in cc

-- ---- a run that is over

module _ (seed : Option ℕ) (first : PoolView) where
  never_stopped : (turns : ℕ) (p : PoolView) → first.stopped ≡ false → IsAfter seed first turns p → p.stopped ≡ false
  never_stopped zero p on after = ap (λ (x : PoolView). x.stopped) after ∙ on
  never_stopped (suc turns) p on (x, actor, a, after, next, m, goes) = ap (λ (o : PoolView). o.stopped) m.turn.appended ∙ never_stopped turns x on after

  pub ends_over : (p : PoolView) → first.stopped ≡ false → (c : IsReachedWith seed first IsOver p) → (t : State) → HasState p t → HasEnded (closing_at p t)
  ends_over p on c t at =
      let m = c.last in
      over_ends c.before p c.actor m.given c.answer m.turn m.has (never_stopped c.turns c.before on c.after) c.is.0 c.is.1 t at
