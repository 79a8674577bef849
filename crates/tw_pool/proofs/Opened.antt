-- Invariants of a pool before its first event.
use Rattle.tw_pool.proofs.Names.{ActorCounts, AreIssued, Input, IsKept, List, None, Parts, Some, State, TasksByActor, TypedProgram, Went, [], actor_cmp, ap, arith, get, get-empty, opening, reached, replicate, state_of, sym, ℕ, ◌∙◌, ◌≡◌}
use Rattle.std.specs.FinMap as fin
use Rattle.std.specs.FinSet as set
use Rattle.tw_code.specs.machine.Machine.{run}
use Rattle.tw_pool_state.specs.Opening.{IsOpening}
use Rattle.tw_pool.specs.Openings.{MayOpen}
use Rattle.tw_pool.proofs.Queueing.{none_queued}

nobody : (running_tasks : TasksByActor) → running_tasks ≡ fin.empty → AreIssued [] running_tasks
nobody running_tasks none actor f at = let no_one : None ≡ Some f = sym (get-empty actor_cmp actor) ∙ (sym (ap (λ (s : TasksByActor). get s actor) none) ∙ at) in cc

replays_nothing : (verified : TypedProgram) (inputs : List Input) (layout : ActorCounts) (s : State) → s ≡ opening verified.program inputs → reached verified.program inputs layout [] ≡ Went s
unfolding run
replays_nothing verified inputs layout s is = ap (λ (t : State). Went t) (sym is)

pub kept : (verified : TypedProgram) (inputs : List Input) (layout : ActorCounts) (limit : ℕ) (p : Parts) → MayOpen verified.program inputs layout limit → IsOpening verified inputs layout p
    → IsKept verified inputs layout limit [] p
kept verified inputs layout limit p may opens = record {
  given = may.inputs_are;
  few = may.within.few;
  within = omega arith;
  notices = set.empty;
  replays = replays_nothing verified inputs layout (state_of p set.empty) opens.state;
  parts = opens.parts;
  queues = none_queued p.store.queues opens.parts.queued ∙ ap (λ n. replicate n []) opens.parts.servers;
  lent = nobody p.running_tasks.tasks opens.nobody;
}
