-- Each state that an accepted program reaches is in order, and its data live on.
use Rattle.std.proofs.Common.{◌≡◌, List, [], ◌∷◌, sym, subst}
use Rattle.tw_soundness.proofs.MachineNames.{ActorCounts, AreInputsOf, AreRight, Event, Input, IsProgram, LivesOn, Procedure, State, StaysInOrder, Typings, Went, opening, output_rights, reached, run}
use Rattle.tw_code.proofs.Taken.{takes_once}
use Rattle.tw_soundness.proofs.Accepted.{accepted}
use Rattle.tw_soundness.proofs.Lasting.{AreRunning, Lasts, run_lasts}
use Rattle.tw_soundness.proofs.Opening.{OutputsFit, opening_outputs, opening_running, outputs_kept}
use Rattle.tw_soundness.proofs.Order.{in_order}
use Rattle.tw_soundness.proofs.Safe.{accepts, opened_held, reached_is_held}

module _ (program : List Procedure) (typings : Typings) (is : IsProgram program) (right : AreRight program typings) where
  -- from the opening on
  opened_lasts : (inputs : List Input) (layout : ActorCounts) (events : List Event) (s : State) → AreInputsOf program inputs → reached program inputs layout events ≡ Went s → Lasts (opening program inputs) s
  opened_lasts inputs layout events s given e =
      run_lasts program typings (accepted program typings (accepts program typings is right)) layout events (opening program inputs) s (opened_held program typings is right inputs given) e

  lives_on : (inputs : List Input) (layout : ActorCounts) (events more : List Event) (s t : State) → AreInputsOf program inputs → reached program inputs layout events ≡ Went s → run program layout more s ≡ Went t → LivesOn s.store t.store
  lives_on inputs layout events more s t given e goes =
      let l = run_lasts program typings (accepted program typings (accepts program typings is right)) layout more s t (reached_is_held program typings is right inputs layout events s given e) goes in
      record { next = l.store.next; same = l.store.kept }

  ordered : ((inputs : List Input) → AreInputsOf program inputs → AreRunning (opening program inputs) × OutputsFit (opening program inputs).store (output_rights program) (opening program inputs).outputs) → StaysInOrder program typings
  ordered first = record {
    reached_is_in_order = λ inputs layout events s given e.
        let l = opened_lasts inputs layout events s given e in
        let o = first inputs given in
        in_order program typings is right s (reached_is_held program typings is right inputs layout events s given e) (l.running o.0)
        (subst (OutputsFit s.store (output_rights program)) (sym l.outputs) (outputs_kept (opening program inputs).store s.store l.store (output_rights program) (opening program inputs).outputs o.1));
    lasts = lives_on;
    once = λ inputs layout events. takes_once program inputs layout events;
  }

pub stays_in_order : (program : List Procedure) (typings : Typings) → IsProgram program → AreRight program typings → StaysInOrder program typings
stays_in_order [] typings is right = let main = right.accepted.main in cc
stays_in_order (main ∷ others) typings is right =
    ordered (main ∷ others) typings is right (λ inputs given. (opening_running main others inputs is.1.0.params.1 right.accepted.main given, opening_outputs main others inputs is.1.0.params.1 right.accepted.main given))
