-- A run, extended by one event.
use Rattle.std.proofs.Common.{◌≡◌, List, [], ◌∷◌, ◌++◌, ap, ◌∙◌}
use Rattle.tw_types.specs.declared.event.Event.{Event}
use Rattle.tw_types.specs.Layout.{ActorCounts}
use Rattle.tw_types.specs.Outcome.{Outcome, Went, ◌>>=◌}
use Rattle.tw_types.proofs.Outcomes.{same_went, went_first}
use Rattle.tw_code.specs.declared.procedure.Procedure.{Procedure}
use Rattle.tw_code.specs.machine.Machine.{run, step}
use Rattle.tw_code.specs.machine.State.{State}

pub run_more : (program : List Procedure) (layout : ActorCounts) (history : List Event) (event : Event) (s t u : State)
    → run program layout history s ≡ Went t → step program layout event t ≡ Went u → run program layout (history ++ event ∷ []) s ≡ Went u
unfolding run
run_more program layout [] event s t u e h =
    let same : s ≡ t = same_went s t e in
    ap (λ (o : Outcome State). o >>= run program layout []) (ap (step program layout event) same ∙ h)
run_more program layout (first ∷ history) event s t u e h =
    let one = went_first (step program layout first s) (run program layout history) t e in
    ap (λ (o : Outcome State). o >>= run program layout (history ++ event ∷ [])) one.1 ∙ run_more program layout history event one.0 t u one.2 h
