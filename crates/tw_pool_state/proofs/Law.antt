-- The theorems on the machine, for the state of the parts.
use Rattle.tw_pool_state.proofs.PartNames.{Actor, ActorCounts, AreParts, AreQueued, Control, Engine, Event, FrameView, HasSlot, IsHeld, IsLayout, IsReached, IsTarget, Kind, Leaf, None, Notices, Option, Parts, Procedure, RightsFit, Server, Some, State, Succeeds, TypedProgram, Went, Worker, [], ap, arith, bare_frame, get, is_control, is_in, length, ltb-true, number_in_kind, opening, queues_after, reached_is_held, slice_get, state_of, step, sym, true, typings_of, up_to, ℕ, ◌++◌, ◌<◌, ◌∙◌, ◌∷◌, ◌≡◌, ◌≢◌, ◌≤◌}
use Rattle.tw_code.specs.machine.History.{actor_of}
use Rattle.tw_code.proofs.Placed.{IsPlaced, count_of, engine_below, reached_placed}
use Rattle.tw_code.proofs.Runs.{run_more}
use Rattle.tw_pool_state.proofs.Fitting.{seen}

module _ (verified : TypedProgram) (layout : ActorCounts) (p : Parts) (notices : Notices) (h : AreParts verified layout p notices) where
  pub held : IsHeld verified.program (typings_of verified) (state_of p notices)
  held = reached_is_held verified.program (typings_of verified) h.runnable.is h.runnable.right h.law.inputs layout h.law.history (state_of p notices) h.law.given h.law.replays

  pub in_layout : IsPlaced verified.program layout (state_of p notices)
  in_layout = reached_placed verified.program h.law.inputs layout h.law.history h.runnable.targets (state_of p notices) h.law.replays

  pub after : (event : Event) (next : State) → step verified.program layout event (state_of p notices) ≡ Went next → IsReached verified.program layout next
  after event next e = record {
    inputs = h.law.inputs;
    given = h.law.given;
    history = h.law.history ++ event ∷ [];
    replays = run_more verified.program layout h.law.history event (opening verified.program h.law.inputs) (state_of p notices) next h.law.replays e;
  }

  -- an event, from what it leaves
  pub goes_to : (event : Event) (new : Parts) (left : Notices) (next : State) → step verified.program layout event (state_of p notices) ≡ Went next → state_of new left ≡ next
      → AreQueued new.store.queues left → length new.store.queues ≡ layout.servers → new.store.queues ≡ queues_after verified.program event (state_of p notices) p.store.queues → new.running_tasks.layout ≡ p.running_tasks.layout → RightsFit verified new.store.places new.running_tasks.tasks new.tasks.tasks new.rules.rules new.outputs
      → ((actor : Actor) → actor ≢ actor_of event → get new.running_tasks.tasks actor ≡ get p.running_tasks.tasks actor) → Succeeds verified layout event p notices new
  goes_to event new left next step_is same queued servers queues own rights_fit others =
      let went : step verified.program layout event (state_of p notices) ≡ Went (state_of new left) = step_is ∙ ap Went (sym same) in
      record {
        left = left;
        step_is = went;
        parts = record {
          runnable = h.runnable;
          law = after event (state_of new left) went;
          queued = queued;
          servers = servers;
          layout_is = own ∙ h.layout_is;
          rights_fit = rights_fit;
        };
        queues = queues;
        others = others;
      }

-- an actor of the layout has a slot
pub has_slot : (layout : ActorCounts) (actor : Actor) → IsLayout layout → is_in layout actor ≡ true → HasSlot actor
has_slot layout (Engine number) counts there = let below = ltb-true number layout.engines there in omega (arith, below, counts.few_engines)
has_slot layout (Server number) counts there = let below = ltb-true number layout.servers there in omega (arith, below, counts.few_servers)
has_slot layout (Worker number) counts there = let below = ltb-true number layout.workers there in omega (arith, below, counts.few_workers)

-- who runs a task
pub runner_has_slot : (verified : TypedProgram) (layout : ActorCounts) (p : Parts) (notices : Notices) → AreParts verified layout p notices → (actor : Actor) (f : FrameView) → get p.running_tasks.tasks actor ≡ Some f → HasSlot actor
runner_has_slot verified layout p notices h actor f is_running =
    has_slot layout actor h.runnable.counts ((in_layout verified layout p notices h).frames actor (bare_frame f) (seen bare_frame p.running_tasks.tasks actor (Some f) is_running)).there

-- who runs a control task is an engine that rules may have
pub engine_low : (verified : TypedProgram) (layout : ActorCounts) (p : Parts) (notices : Notices) → AreParts verified layout p notices → (actor : Actor) (f : FrameView) (q : Procedure) → get p.running_tasks.tasks actor ≡ Some f
    → slice_get verified.program f.procedure ≡ Some q → is_control q.kind ≡ true → (engine : ℕ) → engine ≡ number_in_kind actor → engine < 4
engine_low verified layout p notices h actor f q is_running here control engine is =
    let low = engine_below verified.program layout (state_of p notices) (in_layout verified layout p notices h) actor (bare_frame f) q (seen bare_frame p.running_tasks.tasks actor (Some f) is_running) here control in
    omega (arith, low, is, h.runnable.counts.few_engines)

-- a target of the layout is one that the queues have
pub target_below : (layout : ActorCounts) (kind : Kind) (target : Option ℕ) → IsLayout layout → up_to target ≤ count_of layout kind → IsTarget target
target_below layout kind None counts low = tt
target_below layout Control (Some number) counts low = omega (arith, low, counts.few_engines)
target_below layout Leaf (Some number) counts low = omega (arith, low, counts.few_workers)
