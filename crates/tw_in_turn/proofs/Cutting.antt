-- A job that was cut off: the steps that its task made so far.
use Rattle.tw_in_turn.proofs.Names.{Actor, ActorCounts, DoneView, Executes, Frame, Has, HasState, IsCut, IsTurn, JobView, List, MayExecute, None, Option, PoolView, Position, Procedure, Some, State, Turn, Went as Gone, [], ap, arith, events_of, false, get, instructions_by, issued_to, length, nat_eq, nat_tests, opening, option_map, refl, slice_get, subst, suc, sum_by-cons, sym, with_events, with_frame, zero, ℕ, ◌+◌, ◌<◌, ◌∙◌, ◌∷◌, ◌≡◌}
use Rattle.tw_types.specs.declared.event.Event.TheVariants.{Local}
use Rattle.tw_code.specs.machine.Machine.{local_steps, step}
use Rattle.tw_code.proofs.Runs.{run_more}
use Rattle.tw_pool.specs.declared.answer.Turn.TheVariants.{Over, NoMemory, Run, Ended, Went, Idle}
use Rattle.tw_pool.specs.declared.answer.Closing.TheVariants.{Limit}
use Rattle.tw_in_turn.proofs.Moving as moving
use Rattle.tw_in_turn.proofs.Moving.{CameTo, ended, full, idle, lent, over, refused, went}

-- the task's frame, at the job's position
record Runs (p : PoolView) (s : State) (actor : Actor) (job : JobView) : Type 0 where
  frame : Frame
  here : get s.frames actor ≡ Some frame
  procedure : frame.procedure ≡ job.procedure
  position : frame.position ≡ job.position
  program : p.program ≡ job.program

runs : (p : PoolView) (s : State) (actor : Actor) (job : JobView) → issued_to p s actor ≡ Some job → Runs p s actor job
runs p s actor job is = by (get s.frames actor) refl is
  where
    own : Frame → JobView
    own f = record { program = p.program; task = f.task; procedure = f.procedure; actor = actor; event_no = length (events_of actor p.history); position = f.position }

    by : (o : Option Frame) → get s.frames actor ≡ o → option_map own o ≡ Some job → Runs p s actor job
    by None there e = cc
    by (Some f) there e =
        let same : own f ≡ job = cc in
        record { frame = f; here = there; procedure = ap (λ (j : JobView). j.procedure) same; position = ap (λ (j : JobView). j.position) same; program = ap (λ (j : JobView). j.program) same }

-- the steps are an event of the machine
steps_go : (program : List Procedure) (layout : ActorCounts) (s : State) (actor : Actor) (f : Frame) (p : Procedure) (n : ℕ) (at : Position) → 0 < n → get s.frames actor ≡ Some f → slice_get program f.procedure ≡ Some p
    → local_steps n p.code f.position ≡ Gone at → step program layout (Local actor n) s ≡ Gone (with_frame s actor (record f { position = at; spent = f.spent + n }))
unfolding step
steps_go program layout s actor f p n at some here its steps =
    let there = here in let test : nat_eq n 0 ≡ false = grind (arith, nat_tests) in
    rw (test, there, its, steps) refl

one_local : (actor : Actor) (n : ℕ) → instructions_by (Local actor n) + 0 ≡ n
one_local actor n = omega arith

executes : (p : PoolView) (s : State) (actor : Actor) (job : JobView) (n : ℕ) → HasState p s → Runs p s actor job → IsCut job.program.program job.procedure job.position (suc n) → Executes p (suc n)
executes p s actor job n at r cut = record {
  events = Local actor (suc n) ∷ [];
  state = after;
  has_state = run_more p.program.program p.layout p.history (Local actor (suc n)) (opening p.program.program p.inputs) s after at (steps_go p.program.program p.layout s actor r.frame cut.p (suc n) cut.at (omega arith) r.here here steps);
  instructions = sum_by-cons instructions_by (Local actor (suc n)) [] ∙ one_local actor (suc n);
}
  where
    after : State
    after = with_frame s actor (record r.frame { position = cut.at; spent = r.frame.spent + suc n })

    here : slice_get p.program.program r.frame.procedure ≡ Some cut.p
    here = rw (r.program, r.procedure) cut.here

    steps : local_steps (suc n) cut.p.code r.frame.position ≡ Gone cut.at
    steps = rw r.position cut.reached.went

-- a job of this step that was cut off
pub may_execute : (old new : PoolView) (actor : Actor) (given : Option DoneView) (answer : Turn) → (t : IsTurn old actor given answer new) → Has old actor given → (job : JobView) → answer ≡ Run job → (steps : ℕ)
    → IsCut job.program.program job.procedure job.position steps → MayExecute new steps
may_execute old new actor given answer t has job is zero cut = tt
may_execute old new actor given answer t has job is (suc n) cut = by (moving.came old new actor given answer t has)
  where
    by : CameTo old t.state actor given answer t.events → Executes new (suc n)
    by (over closing a at e) = let no_run : Over closing ≡ Run job = sym at ∙ is in cc
    by (full a e) = let no_run : Over Limit ≡ Run job = sym a ∙ is in cc
    by (lent u at j there a some) =
        let own : j ≡ job = (let r : Run j ≡ Run job = sym a ∙ is in cc) in
        let issued : issued_to (with_events old t.events) u actor ≡ Some job = there ∙ ap Some own in
        subst (λ (p : PoolView). Executes p (suc n)) (sym t.appended) (executes (with_events old t.events) u actor job n at (runs (with_events old t.events) u actor job issued) cut)
    by (ended before a e) = let no_run : Ended ≡ Run job = sym a ∙ is in cc
    by (went e rules a es none) = let no_run : Went ≡ Run job = sym a ∙ is in cc
    by (idle a e none nothing runs_on) = let no_run : Idle ≡ Run job = sym a ∙ is in cc
    by (refused a e) = let no_run : NoMemory given ≡ Run job = sym a ∙ is in cc
