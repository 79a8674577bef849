-- Jobs and Dones in the answer of each line of the table of turns are of the program.
use Rattle.tw_host.proofs.Names.{Actor, Ask, Bool, Call, Closing, Deliver, DoneView, End, Event, Frame, HasState, IsAnswerOf, IsDoneOf, IsOwedBy, IsTurn, Issues, JobView, Limit, List, Local, Makes, None, Option, PoolView, Release, Some, State, Take, TakesBack, Turn, Turns, TurnsUnless, TypedProgram, [], ap, closing_at, event_of, events_of, false, get, inl, inr, instr_after, is_last, issued_to, length, option_map, same_went, steps_of, subst, sym, true, with_events, ℕ, ◌++◌, ◌∙◌, ◌∷◌, ◌≡◌}
use Rattle.tw_pool.specs.declared.answer.Turn.TheVariants as turn

abbrev program_in : TypedProgram → Option JobView → TypedProgram
program_in program None = program
program_in program (Some job) = job.program

issued_is : (p : PoolView) (n : ℕ) (actor : Actor) (o : Option Frame) (job : JobView)
    → option_map (λ (f : Frame). record { program = p.program; task = f.task; procedure = f.procedure; actor = actor; event_no = n; position = f.position }) o ≡ Some job → job.program ≡ p.program
issued_is p n actor None job is = cc
issued_is p n actor (Some f) job is = sym (ap (program_in p.program) is)

-- holds for an answer whose job is issued to the actor once these events are appended
abbrev IsIssued : PoolView → Actor → List Event → Turn → Type 0
IsIssued p actor events (turn.Over closing) = Unit {0}
IsIssued p actor events (turn.Foreign done) = Unit {0}
IsIssued p actor events turn.Owed = Unit {0}
IsIssued p actor events (turn.NoMemory given) = Unit {0}
IsIssued p actor events (turn.Run job) = (s : State) × HasState (with_events p events) s × (issued_to (with_events p events) s actor ≡ Some job)
IsIssued p actor events turn.Ended = Unit {0}
IsIssued p actor events turn.Went = Unit {0}
IsIssued p actor events turn.Idle = Unit {0}

module _ (p : PoolView) (answer : Turn) (events : List Event) where
  abbrev Owns : Actor → Type 0
  Owns actor = IsAnswerOf p.program answer × IsIssued p actor events answer

  other : (actor : Actor) (wanted : Turn) → answer ≡ wanted → IsAnswerOf p.program wanted × IsIssued p actor events wanted → Owns actor
  other actor wanted is owns = subst (λ (a : Turn). IsAnswerOf p.program a × IsIssued p actor events a) (sym is) owns

  lends : (actor : Actor) (es : List Event) → Issues p actor es answer events → Owns actor
  lends actor es l = other actor (turn.Run l.2) l.4.0 (
    issued_is p (length (events_of actor (with_events p es).history)) actor (get l.0.frames actor) l.2 l.3,
    (l.0, subst (λ x. HasState (with_events p x) l.0) (sym l.4.1) l.1, subst (λ x. issued_to (with_events p x) l.0 actor ≡ Some l.2) (sym l.4.1) l.3),
  )

  made : (actor : Actor) (given : Option DoneView) (es : List Event) (e : Event) → IsDoneOf p.program given → Makes p actor given es e answer events → Owns actor
  made actor given es (Take a) d (inl l) = lends actor (es ++ Take a ∷ []) l
  made actor given es (Take a) d (inr l) = other actor (turn.NoMemory given) l.1.0 (d, tt)
  made actor given es (Local _ _) d l = elim l [ ]
  made actor given es (Call a) d (inl l) = lends actor (es ++ Call a ∷ []) l
  made actor given es (Call a) d (inr l) = other actor (turn.NoMemory given) l.1.0 (d, tt)
  made actor given es (End a) d l = other actor turn.Ended l.0 (tt, tt)
  made actor given es (Ask engine rule parameter) d (inl l) = other actor turn.Went l.0 (tt, tt)
  made actor given es (Ask engine rule parameter) d (inr l) = other actor (turn.NoMemory given) l.1.0 (d, tt)
  made actor given es (Deliver server datum rule parameter) d l = other actor turn.Went l.0 (tt, tt)
  made actor given es (Release engine rule) d (inl l) = other actor turn.Went l.0 (tt, tt)
  made actor given es (Release engine rule) d (inr l) = other actor (turn.NoMemory given) l.1.0 (d, tt)

  taken_back : (actor : Actor) (short last : Bool) (done : DoneView) → done.before.program ≡ p.program → TakesBack short last p actor done answer events → Owns actor
  taken_back actor true last done d l = lends actor (steps_of actor done) l
  taken_back actor false true done d l = other actor (turn.Over Limit) l.0 (tt, tt)
  taken_back actor false false done d l = made actor (Some done) (steps_of actor done) (event_of actor (instr_after p.program.program done)) d l

  turned : (s : State) (actor : Actor) (job : Option JobView) (given : Option DoneView) → IsDoneOf p.program given → Turns p s actor job given answer events → Owns actor
  turned s actor None None d (inl l) = made actor None [] l.0 tt l.3
  turned s actor None None d (inr l) = other actor turn.Idle l.1.0 (tt, tt)
  turned s actor None (Some done) d l = other actor (turn.Foreign done) l.0 (d, tt)
  turned s actor (Some job) None d l = other actor turn.Owed l.0 (tt, tt)
  turned s actor (Some job) (Some done) d (inl l) = taken_back actor done.short (is_last p done) done d l.1
  turned s actor (Some job) (Some done) d (inr l) = other actor (turn.Foreign done) l.1.0 (d, tt)

  pub owns : (s : State) (actor : Actor) (closing : Option Closing) (given : Option DoneView) → IsDoneOf p.program given → TurnsUnless closing p s actor given answer events → Owns actor
  owns s actor (Some closing) given d l = other actor (turn.Over closing) l.0 (tt, tt)
  owns s actor None given d l = turned s actor (issued_to p s actor) given d l

-- like that, for a step
pub is_answer_of : (old new : PoolView) (actor : Actor) (given : Option DoneView) (answer : Turn) → IsTurn old actor given answer new → IsDoneOf old.program given → IsAnswerOf old.program answer
is_answer_of old new actor given answer turn d = (owns old answer turn.events turn.state actor (closing_at old turn.state) given d turn.is).0

-- the result of the job that a step issues is owed
pub owed_after : (old new : PoolView) (actor : Actor) (given : Option DoneView) (answer : Turn) → IsTurn old actor given answer new → IsDoneOf old.program given → (job : JobView) → answer ≡ turn.Run job → (done : DoneView) → done.before ≡ job → IsOwedBy new actor done
owed_after old new actor given answer t d job is done own s at =
    let issued : IsIssued old actor t.events (turn.Run job) = subst (IsIssued old actor t.events) is (owns old answer t.events t.state actor (closing_at old t.state) given d t.is).1 in
    let same : issued.0 ≡ s = same_went issued.0 s (sym issued.1 ∙ subst (λ (q : PoolView). HasState q s) t.appended at) in
    ap (λ (q : PoolView). issued_to q s actor) t.appended ∙ ap (λ x. issued_to (with_events old t.events) x actor) (sym same) ∙ issued.2 ∙ ap Some (sym own)
