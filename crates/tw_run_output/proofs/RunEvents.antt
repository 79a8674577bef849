-- The events of a run, read from its trace one after the other; no task executes more instructions than it may.
use Rattle.std.proofs.Common.{◌≡◌, ◌≤◌, ◌+◌, ◌++◌, ◌∙◌, ℕ, List, [], ◌∷◌, length, take, Option, Some, None, refl, sym, ap, subst}
use Rattle.tw_run_output.proofs.RunNames.{AreShort, Event, IsProgram, PlainView, Procedure, State, Went, begins, reached, rejection_of}
use Rattle.std.specs.Prelude.{slice_get}
use Rattle.std.proofs.lemmas.List.{take_all, take_more}
use Rattle.std.proofs.lemmas.Option.{get_or_from_slice_get, slice_get_within}
use Rattle.tw_types.specs.declared.input.Input.{Input}
use Rattle.tw_types.specs.Layout.{ActorCounts}
use Rattle.tw_types.specs.Outcome.{Outcome}
use Rattle.tw_types.proofs.Outcomes.{went_first}
use Rattle.tw_code.specs.accepting.WellTyped.{IsAccepted}
use Rattle.tw_code.specs.machine.Holders.{Typings}
use Rattle.tw_code.specs.machine.Inputs.{AreInputsOf}
use Rattle.tw_code.specs.machine.Machine.{run, step}
use Rattle.tw_order.specs.declared.runs.RunOrder.{RunOrder}
use Rattle.tw_soundness.specs.Invariant.{IsHeld}
use Rattle.tw_soundness.specs.NoTrap.{AreRight}
use Rattle.tw_soundness.proofs.Along.{event_small}
use Rattle.tw_soundness.proofs.Safe.{kept_by, opened_held}
use Rattle.tw_replay_output.specs.Replay.{ByOutcome}

-- ---- the events of a trace

pub event_more : (history : List Event) (i : ℕ) (e : Event) (old new : List Event) → old ≡ take i history → slice_get history i ≡ Some e → new ≡ old ++ e ∷ [] → new ≡ take (i + 1) history
event_more history i e old new has at added =
    let longer = take_more history i e (slice_get_within history i e at) ∙ ap (λ (x : Event). take i history ++ x ∷ []) (get_or_from_slice_get history i e e at) in
    added ∙ ap (λ (es : List Event). es ++ e ∷ []) has ∙ sym longer

pub all_events : (history : List Event) (i : ℕ) (now : List Event) → length history ≤ i → now ≡ take i history → now ≡ history
all_events history i now all has = has ∙ take_all i history all

-- ---- the start

-- an accepted program with the inputs that main takes is opened
pub opens : (program : List Procedure) (inputs : List Input) → IsAccepted program → AreInputsOf program inputs → rejection_of program inputs ≡ None
opens program inputs accepted given = rw (accepted.main, given.count, given.fit) refl

-- ---- its events

along : (program : List Procedure) (typings : Typings) → IsProgram program → AreRight program typings → (layout : ActorCounts) (events : List Event) (s t : State) → IsHeld program typings s → run program layout events s ≡ Went t → AreShort events
unfolding run
along program typings is are layout [] s t held e = tt
along program typings is are layout (event ∷ events) s t held e =
    let one = went_first (step program layout event s) (run program layout events) t e in
    (event_small program typings is are layout event s one.0 held one.1, along program typings is are layout events one.0 t (kept_by program typings layout event s one.0 is are held one.1) one.2)

pub run_short : (program : List Procedure) (typings : Typings) → IsProgram program → AreRight program typings → (inputs : List Input) (layout : ActorCounts) (events : List Event) (t : State)
    → AreInputsOf program inputs → reached program inputs layout events ≡ Went t → AreShort events
run_short program typings is are inputs layout events t given e = along program typings is are layout events _ t (opened_held program typings is are inputs given) e

-- ---- if the events succeed

pub goes_by : (o : Outcome State) (s : State) (goes : State → Type 0) (stops : Type 0) → o ≡ Went s → ByOutcome o goes stops → goes s
goes_by o s goes stops is h = subst (λ (p : Outcome State). ByOutcome p goes stops) is h

-- ---- the machine at the start

-- events from there lead to the run's state
pub goes_there : (program : List Procedure) (order : RunOrder) (first : PlainView) (read events : List Event) (s : State) → first ≡ begins first.version program order → read ≡ events → reached program order.inputs order.options.layout events ≡ Went s
    → run first.program first.layout read first.state ≡ Went s
goes_there program order first read events s same all goes =
    ap (λ (v : PlainView). run v.program v.layout read v.state) same ∙ ap (λ (es : List Event). reached program order.inputs order.options.layout es) all ∙ goes
