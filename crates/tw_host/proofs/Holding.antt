-- The events that a seat gets from a batch.
use Rattle.std.proofs.Common.{◌≡◌, ◌+◌, ◌*◌, ◌<◌, ◌≤◌, ℕ, zero, suc, Bool, true, false, not, refl, sym, ap, subst, ◌∙◌, arith, List, [], ◌∷◌, ◌++◌, append_assoc, length, length-append, slice_get, Option, Some, None, IfSome, Result, Ok, Err, drop, ◌⊎◌, inl, inr}
use Rattle.tw_host.proofs.Names.{Actor, AreTurns, DoneView, Event, HasNextResult, HasText, Instr, IsAnswerOf, IsAtStop, IsBrief, IsDone, IsDoneOf, IsOwedBy, IsProgram, IsSomeAnd, IsStop, IsTurn, JobView, NotEnabled, PoolView, Procedure, Run, RunsHere, Scalar, Sees, SeesTurns, SeesUpTo, SomeTurn, SomeTurns, StopsAt, Turn, TurnsOrNot, TypedProgram, Went, actor_of, drop_at, events_of, few_instructions, filter-append, is_some, run_of, same_Some, same_actor, typings_of, with_events}
use Rattle.tw_code.specs.declared.instr.Instr.TheVariants as instr
use Rattle.tw_code.specs.accepting.Flow.{flows}
use Rattle.tw_code.specs.machine.Machine.{local_of, local_steps}
use Rattle.tw_code.specs.machine.Position.{Position}
use Rattle.tw_budget.proofs.FrameTheorems.{below_budget}
use Rattle.tw_code.specs.accepting.Walk.{IsBudget}
use Rattle.tw_soundness.specs.NoTrap.{AreRight}
use Rattle.tw_soundness.specs.AtPlace.{Accepts, IsAtPosition}
use Rattle.tw_soundness.proofs.Safe.{accepts}
use Rattle.tw_pool.specs.declared.answer.Turn.TheVariants as turn
use Rattle.tw_host.specs.declared.locked.Strange.{Strange}
use Rattle.tw_host.proofs.Owning.{owed_after}
use Rattle.tw_host.proofs.Turning as turning

-- ---- a job whose next instruction isn't local

no_step : (p : Procedure) (at after : Position) (steps : ℕ) → IsStop p.code at.place → local_steps steps p.code at ≡ Went after → (steps ≡ 0) × (after ≡ at)
no_step p at after zero stop went = let same : at ≡ after = cc in (refl, sym same)
no_step p at after (suc n) stop went =
    let none : local_steps (suc n) p.code at ≡ NotEnabled = rw (stop.is, stop.other) refl in
    let no : NotEnabled ≡ Went after = sym none ∙ went in cc

has_memory : (p : Procedure) (at after : Position) → after ≡ at → IsStop p.code at.place → (short : Bool) → StopsAt short p.code p.registers after.place → short ≡ false
has_memory p at after is stop false stops = refl
has_memory p at after is stop true stops =
    let both = sym stop.is ∙ (ap (λ (a : Position). slice_get p.code a.place) (sym is) ∙ stops.is) in
    let same : stop.here ≡ instr.Local stops.here = same_Some stop.here (instr.Local stops.here) both in
    let no : None ≡ Some stops.here = sym stop.other ∙ ap local_of same in cc

pub still : (program : List Procedure) (procedure : ℕ) (before after : Position) (steps : ℕ) (short : Bool) (p : Procedure) → slice_get program procedure ≡ Some p → IsStop p.code before.place
    → IsDone program procedure before after steps short → (steps ≡ 0) × (short ≡ false)
still program procedure before after steps short p here stop d =
    let same : d.p ≡ p = same_Some d.p p (sym d.here ∙ here) in
    let went : local_steps steps p.code before ≡ Went after = subst (λ (q : Procedure). local_steps steps q.code before ≡ Went after) same d.reached.went in
    let none = no_step p before after steps stop went in (none.0, has_memory p before after none.1 stop short (subst (λ (q : Procedure). StopsAt short q.code q.registers after.place) same d.stops))

pub still_at_stop : (job : JobView) (done : DoneView) → IsAtStop job → done.before ≡ job → IsDone done.before.program.program done.before.procedure done.before.position done.after done.steps done.short
    → (done.steps ≡ 0) × (done.short ≡ false)
still_at_stop job done is_at_stop is d =
    let there = subst (λ (j : JobView). IsAtStop j) (sym is) is_at_stop in
    still done.before.program.program done.before.procedure done.before.position done.after done.steps done.short there.0 there.1 there.2 d

-- ---- a job whose task is brief

pub is_brief : (job : JobView) (v : TypedProgram) → v ≡ job.program → (number : ℕ) → number ≡ job.procedure → (p : Procedure) → slice_get v.program number ≡ Some p
    → (budget : ℕ) → IsSomeAnd (slice_get v.program number) (λ (q : Procedure). IsBudget (flows q.code) budget) → budget ≤ few_instructions
    → IsProgram v.program → AreRight v.program (typings_of v) → (HasText p.registers → ⊥) → IsBrief job
is_brief job v of_job number same p there budget is_budget few is right plain = record {
  p = p;
  here = subst (λ (t : TypedProgram). slice_get t.program job.procedure ≡ Some p) of_job (subst (λ (n : ℕ). slice_get v.program n ≡ Some p) same there);
  typings = typings_of v number;
  accepts = subst (λ (t : TypedProgram). Accepts t.program (typings_of v number) p) of_job (accepts v.program (typings_of v) is right number p there);
  budget = budget;
  is_budget = subst (λ (o : Option Procedure). IsSomeAnd o (λ (q : Procedure). IsBudget (flows q.code) budget)) there is_budget;
  few = few;
  plain = plain;
}

no_text : (code : List Instr) (types : List Scalar) (place : ℕ) → (HasText types → ⊥) → (short : Bool) → StopsAt short code types place → short ≡ false
no_text code types place plain false stops = refl
no_text code types place plain true stops = absurd (plain stops.texts)

brief_job : (job : JobView) (b : IsBrief job) (after : Position) (steps : ℕ) (short : Bool) → IsDone job.program.program job.procedure job.position after steps short → (steps ≤ few_instructions) × (short ≡ false)
brief_job job b after steps short d =
    let same : d.p ≡ b.p = same_Some d.p b.p (sym d.here ∙ b.here) in
    let fits_place : IsAtPosition b.p steps after = subst (λ (q : Procedure). IsAtPosition q steps after) same d.reached.fits_place in
    let stops : StopsAt short b.p.code b.p.registers after.place = subst (λ (q : Procedure). StopsAt short q.code q.registers after.place) same d.stops in
    let below = below_budget (flows b.p.code) b.accepts.sound b.budget steps after.place after.loops (fits_place.within b.budget b.is_budget) in
    (omega (arith, below, b.few), no_text b.p.code b.p.registers after.place b.plain short stops)

pub few_here : (job : JobView) (done : DoneView) → RunsHere job → done.before ≡ job → IsDone done.before.program.program done.before.procedure done.before.position done.after done.steps done.short
    → (done.steps ≤ few_instructions) × (done.short ≡ false)
few_here job done (inl is_at_stop) is d = let none = still_at_stop job done is_at_stop is d in (omega (arith, none.0), none.1)
few_here job done (inr brief) is d = brief_job done.before (subst (λ (j : JobView). IsBrief j) (sym is) brief) done.after done.steps done.short d

pub none_there : {A : Type 0} (o : Option A) (b : Bool) → b ≡ is_some o → not b ≡ true → o ≡ None
none_there None b is holds = refl
none_there (Some x) b is holds = let no : false ≡ true = sym (ap not is) ∙ holds in cc

-- ---- steps, one after the other

pub next_done : (program : TypedProgram) (answer : Turn) (next : Option DoneView) → IsAnswerOf program answer → HasNextResult answer next → IsDoneOf program next
next_done program (turn.Over closing) next is on = absurd on
next_done program (turn.Foreign done) next is on = absurd on
next_done program turn.Owed next is on = absurd on
next_done program (turn.NoMemory given) next is on = absurd on
next_done program (turn.Run job) next is on = subst (λ (o : Option DoneView). IsDoneOf program o) (sym on.1.1) (ap (λ (j : JobView). j.program) on.1.2 ∙ is)
next_done program turn.Ended next is on = subst (λ (o : Option DoneView). IsDoneOf program o) (sym on) tt
next_done program turn.Went next is on = subst (λ (o : Option DoneView). IsDoneOf program o) (sym on) tt
next_done program turn.Idle next is on = absurd on

pub next_owed : (old new : PoolView) (actor : Actor) (given : Option DoneView) (answer : Turn) (next : Option DoneView) → IsTurn old actor given answer new → IsDoneOf old.program given → HasNextResult answer next → IfSome next (λ done. IsOwedBy new actor done)
next_owed old new actor given answer next t d on = by answer refl on
  where
    by : (a : Turn) → answer ≡ a → HasNextResult a next → IfSome next (λ done. IsOwedBy new actor done)
    by (turn.Over closing) is on = absurd on
    by (turn.Foreign done) is on = absurd on
    by turn.Owed is on = absurd on
    by (turn.NoMemory given) is on = absurd on
    by (turn.Run job) is on = subst (λ (o : Option DoneView). IfSome o (λ done. IsOwedBy new actor done)) (sym on.1.1) (owed_after old new actor given answer t d job is on.1.0 on.1.2)
    by turn.Ended is on = subst (λ (o : Option DoneView). IfSome o (λ done. IsOwedBy new actor done)) (sym on) tt
    by turn.Went is on = subst (λ (o : Option DoneView). IfSome o (λ done. IsOwedBy new actor done)) (sym on) tt
    by turn.Idle is on = absurd on

-- the events that several steps append
pub record Adds (old new : PoolView) (actor : Actor) (answer : Turn) (count : ℕ) : Type 0 where
  pub es : List Event
  pub appended : new ≡ with_events old es
  pub few : length es ≤ 2 * count
  pub own : events_of actor es ≡ es
  pub within : length old.history ≤ old.limit → length new.history ≤ old.limit
  pub answers : IsAnswerOf old.program answer

pub one : (old new : PoolView) (actor : Actor) (given : Option DoneView) (answer : Turn) → IsTurn old actor given answer new → IsDoneOf old.program given → Adds old new actor answer 1
one old new actor given answer t owed =
    let own = turning.own old new actor given answer t in
    record { es = t.events; appended = t.appended; few = omega (arith, own.few); own = own.own; within = turning.within old new actor given answer t; answers = turning.answers old new actor given answer t owed }

pub all : (before : List Turn) (old new : PoolView) (actor : Actor) (given : Option DoneView) (answer : Turn) → AreTurns old actor given before answer new → IsDoneOf old.program given → Adds old new actor answer (length before + 1)
all [] old new actor given answer t owed = one old new actor given answer t owed
all (first ∷ rest) old new actor given answer t owed =
    let a = one old t.1 actor given first t.2 owed in
    let same : t.1.program ≡ old.program = ap (λ (p : PoolView). p.program) a.appended in
    let limit : t.1.limit ≡ old.limit = ap (λ (p : PoolView). p.limit) a.appended in
    let next : IsDoneOf t.1.program t.0 = subst (λ (program : TypedProgram). IsDoneOf program t.0) (sym same) (next_done old.program first t.0 a.answers t.3) in
    let b = all rest t.1 new actor t.0 answer t.4 next in
    record {
      es = a.es ++ b.es;
      appended = b.appended ∙ (ap (λ (p : PoolView). with_events p b.es) a.appended ∙ ap (λ (h : List Event). record old { history = h }) (append_assoc old.history a.es b.es));
      few = omega (arith, a.few, b.few, length-append a.es b.es);
      own = filter-append (λ (e : Event). same_actor (actor_of e) actor) a.es b.es ∙ (ap (λ es. es ++ events_of actor b.es) a.own ∙ ap (λ es. a.es ++ es) b.own);
      within = λ low. let first_low = a.within low in let then_low = b.within (omega (arith, first_low, limit)) in omega (arith, then_low, limit);
      answers = subst (λ (program : TypedProgram). IsAnswerOf program answer) same b.answers;
    }

module _ (old new : PoolView) (actor : Actor) (answer : Turn) (count : ℕ) (a : Adds old new actor answer count) where
  grown : new.history ≡ old.history ++ a.es
  grown = ap (λ (p : PoolView). p.history) a.appended

  news_are : drop (length old.history) new.history ≡ a.es
  news_are = rw grown (drop_at old.history a.es _ refl)

  pub longer : length new.history ≡ length old.history + length a.es
  longer = ap length grown ∙ length-append old.history a.es

  pub same_run : run_of new ≡ run_of old
  same_run = ap run_of a.appended

  pub appended : (most : ℕ) (run : Run) (given : Option DoneView) (turns : List Turn) (before after : List Event) → AreTurns old actor given turns answer new → length turns < most → length a.es ≤ 2 * most → run_of old ≡ run → length old.history ≤ run.limit
      → length (events_of actor old.history) ≡ length before → after ≡ before ++ drop (length old.history) new.history → SeesTurns most run actor before after given answer
  appended most run given turns before after are few short is low same after_is = record {
    es = a.es;
    appended = after_is ∙ ap (λ es. before ++ es) news_are;
    few = short;
    own = a.own;
    turns = inl (record { pool = old; of_run = is; within = low; same_count = same; before = turns; few = few; turns = subst (λ (q : PoolView). AreTurns old actor given turns answer q) a.appended are });
  }

-- ---- a batch continues

module _ (old : PoolView) (actor : Actor) (given : Option DoneView) (now : PoolView) (owed : Option DoneView) (past : List Turn)
    (so_far : (rest : List Turn) (answer : Turn) (new : PoolView) → AreTurns now actor owed rest answer new → AreTurns old actor given (past ++ rest) answer new) where
  -- one turn more
  pub on : (first : Turn) (next : Option DoneView) (between : PoolView) → IsTurn now actor owed first between → HasNextResult first next
      → (rest : List Turn) (answer : Turn) (new : PoolView) → AreTurns between actor next rest answer new → AreTurns old actor given ((past ++ first ∷ []) ++ rest) answer new
  on first next between t goes rest answer new more =
      subst (λ (turns : List Turn). AreTurns old actor given turns answer new) (sym (append_assoc past (first ∷ []) rest)) (so_far (first ∷ rest) answer new (next, between, t, goes, more))

  -- the last turn
  pub last : (most : ℕ) (answer : Turn) (new : PoolView) → IsTurn now actor owed answer new → length past < most → (before : List Turn) × (length before < most) × AreTurns old actor given before answer new
  last most answer new t few = (past ++ [], omega (arith, few, length-append past []), so_far [] answer new t)

-- ---- one turn under a hold

only : (before : List Turn) (old new : PoolView) (actor : Actor) (given : Option DoneView) (answer : Turn) → length before < 1 → AreTurns old actor given before answer new → IsTurn old actor given answer new
only [] old new actor given answer few are = are
only (first ∷ rest) old new actor given answer few are = absurd (omega (arith, few))

some_turn : (run : Run) (actor : Actor) (count : ℕ) (given : Option DoneView) (answer : Turn) (es : List Event) → SomeTurns 1 run actor count given answer es → SomeTurn run actor count given answer es
some_turn run actor count given answer es s = record {
  pool = s.pool;
  of_run = s.of_run;
  within = s.within;
  same_count = s.same_count;
  turns = only s.before s.pool (with_events s.pool es) actor given answer s.few s.turns;
}

turned : (run : Run) (actor : Actor) (count : ℕ) (given : Option DoneView) (answer : Turn) (es : List Event) → SomeTurns 1 run actor count given answer es ⊎ ((answer ≡ turn.NoMemory given) × (es ≡ [])) → TurnsOrNot run actor count given answer es
turned run actor count given answer es (inl s) = inl (some_turn run actor count given answer es s)
turned run actor count given answer es (inr none) = inr none

pub once : (run : Run) (actor : Actor) (old new : List Event) (given : Option DoneView) (answer : Result Turn Strange) → SeesUpTo 1 run actor old new given answer → Sees run actor old new given answer
once run actor old new given (Ok answer) t = record { es = t.es; appended = t.appended; own = record { few = t.few; own = t.own }; turns = turned run actor (length old) given answer t.es t.turns }
once run actor old new given (Err strange) t = t
