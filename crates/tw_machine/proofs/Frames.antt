-- From the event of one frame to all frames.
use Rattle.tw_machine.proofs.Names.{Actor, AreBelow, BTreeMap, Bool, Changes, Err, Frame, HaveRoom, IfSome, Instr, IsStopped, LeavesFrame, LeavesFrames, LeavesTables, List, None, NotEnabled, Ok, Option, Outcome, Procedure, Result, Some, State, Stopped, Tables, Went, WritesThrough, actor_cmp, actor_cmp-IsAntisymmetric, actor_cmp_total, ap, arith, call_event, end_event, false, found_view, frames_of, get, get_by, insert, insert_same, local_event, local_step, local_steps, nat_eq, nat_tests, procedure_of, refl, stopped_then, subst, suc, sym, true, with_frames, with_tables, written_view, zero, ℕ, ◌<◌, ◌^◌, ◌∙◌, ◌≡◌}
use Rattle.tw_code.specs.machine.Position.{Position}

pub is_few : (o : Option Frame) (f : Frame) (bound : ℕ) → o ≡ Some f → IfSome o (λ g. g.spent < bound) → f.spent < bound
is_few o f bound e h = subst (λ p. IfSome p (λ (g : Frame). g.spent < bound)) e h

pub few_at : (bound : ℕ) (s : State) (actor : Actor) → AreBelow bound s → IfSome (get s.frames actor) (λ f. f.spent < bound)
few_at bound s actor below = by (get s.frames actor) (below.spent actor)
  where
    by : (o : Option Frame) → ((f : Frame) → o ≡ Some f → f.spent < bound) → IfSome o (λ f. f.spent < bound)
    by None h = tt
    by (Some f) h = h f refl

pub room_below : (s : State) (t : Tables) → AreBelow (2 ^ 63) (with_tables s t) → HaveRoom t
room_below s t below = record {
  store = record { number = below.numbers.datum; reads = below.reads; writes = below.writes; members = below.members };
  rule = below.numbers.rule;
  task = below.numbers.task;
}

-- ---- an actor without a frame

module _ (program : List Procedure) (actor : Actor) (s : State) (free : get s.frames actor ≡ None) where
  pub local_idle : (n : ℕ) → local_event program actor n s ≡ NotEnabled
  local_idle n = by (nat_eq n 0) refl
    where
      by : (b : Bool) → nat_eq n 0 ≡ b → local_event program actor n s ≡ NotEnabled
      by true e = rw e refl
      by false e = rw (e, free) refl

  pub call_idle : call_event program actor s ≡ NotEnabled
  call_idle = rw free refl

  pub end_idle : end_event program actor s ≡ NotEnabled
  end_idle = rw free refl

-- ---- local instructions of a frame

some_steps : (n : ℕ) → (n ≡ 0 → ⊥) → nat_eq n 0 ≡ false
some_steps n h = grind (arith, nat_tests)

steps_stopped : (n : ℕ) (code : List Instr) (at : Position) (why : Stopped) → nat_eq n 0 ≡ false → IsStopped (local_step code at) why → IsStopped (local_steps n code at) why
steps_stopped zero code at why some h = cc
steps_stopped (suc n) code at why some h = stopped_then (local_step code at) (local_steps n code) why h

pub local_stopped : (program : List Procedure) (f : Frame) (number : ℕ) (p : Procedure) (code : List Instr) (at : Position) (n : ℕ) (why : Stopped) → (n ≡ 0 → ⊥) → number ≡ f.procedure
    → procedure_of program number ≡ Ok p → code ≡ p.code → at ≡ f.position → IsStopped (local_step code at) why → (s : State) (actor : Actor) → get s.frames actor ≡ Some f → IsStopped (local_event program actor n s) why
local_stopped program f number p code at n why some same here is place h s actor there =
    let found : procedure_of program f.procedure ≡ Ok p = ap (procedure_of program) (sym same) ∙ here in
    let stop : IsStopped (local_steps n p.code f.position) why = subst (λ (x : Position). IsStopped (local_steps n p.code x) why) place (subst (λ (is : List Instr). IsStopped (local_steps n is at) why) is (steps_stopped n code at why (some_steps n some) h)) in
    rw (some_steps n some, there, found) (stopped_then (local_steps n p.code f.position) _ why stop)

-- ---- an actor with this frame

module _ (m n : BTreeMap Actor Frame) (actor : Actor) (f g : Frame) (here : Some f ≡ get_by (actor_cmp actor) m) (wrote : WritesThrough actor_cmp (actor_cmp actor) m g n) where
  there : get (frames_of m.entries) actor ≡ Some f
  there = found_view actor_cmp_total actor_cmp-IsAntisymmetric m actor (Some f) here

  written : frames_of n.entries ≡ insert (frames_of m.entries) actor g
  written = written_view actor_cmp_total actor_cmp-IsAntisymmetric m n actor f g here wrote

  unchanged : g ≡ f → frames_of n.entries ≡ frames_of m.entries
  unchanged e = written ∙ ap (insert (frames_of m.entries) actor) e ∙ insert_same actor_cmp_total actor_cmp-IsAntisymmetric (frames_of m.entries) actor f there

  pub frames_come : (event : Actor → State → Outcome State) (result : Result (Unit {0}) Stopped) → LeavesFrame event f result g → LeavesFrames (event actor) (frames_of m.entries) result (frames_of n.entries)
  frames_come event (Ok x) h = λ s. h (with_frames s (frames_of m.entries)) actor there ∙ ap (λ fs. Went (with_frames s fs)) (sym written)
  frames_come event (Err why) h = λ s. (h.0 (with_frames s (frames_of m.entries)) actor there, ap (with_frames s) (unchanged h.1))

  abbrev state : State → Tables → State
  state s t = with_frames (with_tables s t) (frames_of m.entries)

  pub tables_come : (event : State → Outcome State) (t u : Tables) (result : Result (Unit {0}) Stopped) (s : State) → LeavesTables event actor t f result u g
      → Changes (event (state s t)) (state s t) result (with_frames (with_tables s u) (frames_of n.entries))
  tables_come event t u (Ok x) s h = h (with_frames s (frames_of m.entries)) there ∙ ap (λ fs. Went (with_frames (with_tables s u) fs)) (sym written)
  tables_come event t u (Err why) s h = (
    h.0 (with_frames s (frames_of m.entries)) there,
    ap (λ x. with_frames (with_tables s x) (frames_of n.entries)) h.1 ∙ ap (with_frames (with_tables s t)) (unchanged h.2),
  )
