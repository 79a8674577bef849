-- Runs of a program with a bound end.
use Rattle.tw_bounds.proofs.Names.{ActorCounts, AreInputsOf, AreRight, Bool, Event, Input, IsBoundOfMain, IsLayout, IsProgram, List, NotEnabled, Outcome, Procedure, State, Trap, Typings, Went, [], ap, arith, events_alone, false, length, length-append, opening, reached, reached_is_held, refl, safe, suc, true, zero, ℕ, ◌++◌, ◌+◌, ◌>>=◌, ◌∙◌, ◌∷◌, ◌≡◌, ◌≢◌, ◌≤◌}
use Rattle.tw_code.specs.accepting.Needs.{HasTargets}
use Rattle.tw_code.specs.machine.Ending.{is_quiet}
use Rattle.tw_code.specs.machine.Machine.{run, step}
use Rattle.tw_code.proofs.Runs.{run_more}
use Rattle.tw_code.proofs.Next.{some_enabled}
use Rattle.tw_bounds.specs.Ends.{RunsEnd}
use Rattle.tw_bounds.proofs.Along.{few_events}

module _ (program : List Procedure) (typings : Typings) (is : IsProgram program) (are : AreRight program typings) (steps : ℕ) (bound : IsBoundOfMain program events_alone steps) where
  module _ (inputs : List Input) (layout : ActorCounts) (given : AreInputsOf program inputs) (of : IsLayout layout) (has : HasTargets program layout) where
    abbrev Ended : List Event → State → Type 0
    Ended events s = (more : List Event) × (t : State) × (run program layout more s ≡ Went t) × (is_quiet t ≡ true) × (length events + length more ≤ steps)

    few : (events : List Event) (s : State) → reached program inputs layout events ≡ Went s → length events ≤ steps
    few events s e = few_events program typings is are steps bound inputs layout events s given e

    first_run : (event : Event) (more : List Event) (s t u : State) → step program layout event s ≡ Went t → run program layout more t ≡ Went u → run program layout (event ∷ more) s ≡ Went u
    unfolding run
    first_run event more s t u e f = ap (λ (o : Outcome State). o >>= run program layout more) e ∙ f

    none_run : (s : State) → run program layout [] s ≡ Went s
    unfolding run
    none_run s = refl

    ends : (fuel : ℕ) (events : List Event) (s : State) → reached program inputs layout events ≡ Went s → steps + 1 ≤ length events + fuel → Ended events s
    ends zero events s e enough = let h = few events s e in absurd (omega arith)
    ends (suc fuel) events s e enough = by (λ event t f g. ends fuel (events ++ event ∷ []) t f g) (is_quiet s) refl
      where
        longer : (event : Event) → length (events ++ event ∷ []) ≡ length events + 1
        longer event = length-append events (event ∷ [])

        went : ((event : Event) (t : State) → reached program inputs layout (events ++ event ∷ []) ≡ Went t → steps + 1 ≤ length (events ++ event ∷ []) + fuel → Ended (events ++ event ∷ []) t)
            → (event : Event) (o : Outcome State) → step program layout event s ≡ o → o ≢ NotEnabled → Ended events s
        went later event (Went t) f n =
            let l = longer event in
            let rest = later event t (run_more program layout events event (opening program inputs) s t e f) (omega arith) in
            (event ∷ rest.0, rest.1, first_run event rest.0 s t rest.1 f rest.2, rest.3, omega (arith, l, rest.4))
        went later event NotEnabled f n = absurd (n refl)
        went later event (Trap cause) f n = absurd ((safe program typings is are layout s (reached_is_held program typings is are inputs layout events s given e)).no_trap event cause f)

        by : ((event : Event) (t : State) → reached program inputs layout (events ++ event ∷ []) ≡ Went t → steps + 1 ≤ length (events ++ event ∷ []) + fuel → Ended (events ++ event ∷ []) t)
            → (b : Bool) → is_quiet s ≡ b → Ended events s
        by later true q = let h = few events s e in ([], s, none_run s, q, omega arith)
        by later false q = let some = some_enabled program inputs layout events of has s e q in went later some.0 (step program layout some.0 s) refl some.1

  pub runs_end : RunsEnd program steps
  runs_end = record {
    none_longer = λ inputs layout events s given e. few_events program typings is are steps bound inputs layout events s given e;
    goes_on = λ inputs layout events s given of has e. ends inputs layout given of has (steps + 1) events s e (omega arith);
  }
