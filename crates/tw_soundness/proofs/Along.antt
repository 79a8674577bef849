-- Numbers and counts stay small along a run.
use Rattle.std.proofs.Common.{◌≡◌, ℕ, suc, ◌+◌, ◌*◌, ◌≤◌, ◌==◌, not, List, [], ◌∷◌, length, slice_get, subst, arith}
use Rattle.tw_soundness.proofs.MachineNames.{ActorCounts, AreRight, Ask, Call, Deliver, End, Event, IsHeld, IsProgram, Local, Procedure, Release, State, Take, Typings, Went, WrongCall, enabled, get, greatest_budget, only_if, outcome_of, procedure_of, same_went, there_ok, went_after, went_enabled, went_first, went_ok}
use Rattle.tw_code.specs.machine.Bounds.{AreBelow, AreNumbersBelow, size_of}
use Rattle.tw_code.specs.machine.Machine.{local_steps, run, step}
use Rattle.tw_code.proofs.Growth.{below_more, numbers_wider, step_grows}
use Rattle.tw_soundness.proofs.Safe.{kept_by}
use Rattle.tw_soundness.proofs.Turning.{few_steps}

-- the next numbers grow by one an event at most
pub numbers_along : (program : List Procedure) (layout : ActorCounts) (events : List Event) (bound : ℕ) (s t : State) → AreNumbersBelow bound s → run program layout events s ≡ Went t → AreNumbersBelow (bound + length events) t
unfolding run
numbers_along program layout [] bound s t h e = subst (AreNumbersBelow (bound + 0)) (same_went s t e) (numbers_wider bound (bound + 0) s (omega arith) h)
numbers_along program layout (event ∷ events) bound s t h e =
    let one = went_first (step program layout event s) (run program layout events) t e in
    numbers_wider (bound + 1 + length events) (bound + suc (length events)) t (omega arith)
    (numbers_along program layout events (bound + 1) one.0 t ((step_grows program layout event).numbers bound s one.0 h one.1) one.2)

module _ (program : List Procedure) (typings : Typings) (is : IsProgram program) (are : AreRight program typings) (layout : ActorCounts) where
  -- an event that succeeds executes no more instructions than a budget may have
  pub event_small : (event : Event) (s next : State) → IsHeld program typings s → step program layout event s ≡ Went next → size_of event ≤ greatest_budget
  unfolding step
  event_small (Take actor) s next held e = omega arith
  event_small (Local actor n) s next held e =
      let some = went_after (only_if (not (n == 0))) _ next e in
      let f = went_first (enabled (get s.frames actor)) _ next some.1 in
      let p = went_first (outcome_of (procedure_of program f.0.procedure)) _ next f.2 in
      let k = went_first (local_steps n p.0.code f.0.position) _ next p.2 in
      let runs = went_enabled (get s.frames actor) f.0 f.1 in
      let here = there_ok (slice_get program f.0.procedure) WrongCall p.0 (went_ok (procedure_of program f.0.procedure) p.0 p.1) in
      let few = few_steps program typings is are s held actor f.0 runs p.0 here n k.0 k.1 in
      omega (arith, few)
  event_small (Call actor) s next held e = omega arith
  event_small (End actor) s next held e = omega arith
  event_small (Ask engine rule parameter) s next held e = omega arith
  event_small (Deliver server datum rule parameter) s next held e = omega arith
  event_small (Release engine rule) s next held e = omega arith

  -- numbers, counts and spent instructions therefore stay small along a run
  pub small_along : (events : List Event) (bound : ℕ) (s t : State) → IsHeld program typings s → AreBelow bound s → run program layout events s ≡ Went t → AreBelow (bound + length events * greatest_budget) t
  unfolding run
  small_along [] bound s t held h e = subst (AreBelow (bound + 0 * greatest_budget)) (same_went s t e) (below_more bound (bound + 0 * greatest_budget) s (omega arith) h)
  small_along (event ∷ events) bound s t held h e =
      let one = went_first (step program layout event s) (run program layout events) t e in
      let small = event_small event s one.0 held one.1 in
      let next = below_more (bound + size_of event) (bound + greatest_budget) one.0 (omega (arith, small)) ((step_grows program layout event).all bound s one.0 h one.1) in
      below_more (bound + greatest_budget + length events * greatest_budget) (bound + suc (length events) * greatest_budget) t (omega arith)
      (small_along events (bound + greatest_budget) one.0 t (kept_by program typings layout event s one.0 is are held one.1) next one.2)
