-- The events of rules and notices can be encoded: their numbers are small, since each event raises these by one at most.
use Rattle.tw_pool.proofs.Names.{ActorCounts, AreNumbersBelow, ArgFits, Event, Input, IsHeld, List, None, Option, Param, Procedure, RightType, Rule, RuleArgsFit, Some, Stage, State, Store, Went, [], ap, arith, get, length, numbers_along, opening, opening_bound, opening_is_small, reached, refl, slice_get, slice_get_within, subst, suc, zero, ℕ, ◌+◌, ◌<◌, ◌∷◌, ◌≡◌, ◌≤◌}
use Rattle.tw_types.specs.Task.{Arg, RightArg}
use Rattle.tw_code.specs.format.Program.{IsProcedure, IsProgram}
use Rattle.tw_code.specs.machine.Holders.{Typings}
use Rattle.tw_code.specs.machine.Inputs.{AreInputsOf}
use Rattle.tw_soundness.specs.InOrder.{right_until}
use Rattle.tw_soundness.proofs.Accepted.{all_found}

-- ---- a rule has at most eight parameters, and its rights are on data that were made

pub stages_few : (s : Store) (params : List Param) (stages : List Stage) (args : List Arg) → RuleArgsFit s params stages args → length stages ≡ length params
stages_few s [] [] [] h = refl
stages_few s [] [] (arg ∷ args) h = elim h [ ]
stages_few s [] (stage ∷ stages) args h = elim h [ ]
stages_few s (p ∷ params) [] args h = elim h [ ]
stages_few s (p ∷ params) (stage ∷ stages) [] h = elim h [ ]
stages_few s (p ∷ params) (stage ∷ stages) (arg ∷ args) h = ap suc (stages_few s params stages args h.2)

given_by : (s : Store) (p : Param) (o : Option RightType) (id : ℕ) → ArgFits s p o (RightArg id) → id < s.next
given_by s p None id h = elim h [ ]
given_by s p (Some right) id h = h.given

pub right_given : (s : Store) (params : List Param) (stages : List Stage) (args : List Arg) (k id : ℕ) → RuleArgsFit s params stages args → slice_get args k ≡ Some (RightArg id) → id < s.next
right_given s [] [] [] k id h at = cc
right_given s [] [] (arg ∷ args) k id h at = elim h [ ]
right_given s [] (stage ∷ stages) args k id h at = elim h [ ]
right_given s (p ∷ params) [] args k id h at = elim h [ ]
right_given s (p ∷ params) (stage ∷ stages) [] k id h at = elim h [ ]
right_given s (p ∷ params) (stage ∷ stages) (arg ∷ args) zero id h at =
    let same : arg ≡ RightArg id = cc in
    given_by s p (right_until stage p) id (subst (ArgFits s p (right_until stage p)) same h.1)
right_given s (p ∷ params) (stage ∷ stages) (arg ∷ args) (suc k) id h at = right_given s params stages args k id h.2 at

module _ (program : List Procedure) (typings : Typings) (is : IsProgram program) (s : State) (held : IsHeld program typings s) (number : ℕ) (rule : Rule) (at : get s.rules number ≡ Some rule) where
  its : (p : Procedure) × (slice_get program rule.procedure ≡ Some p)
  its = held.types.procedures.rules number rule at

  fit : RuleArgsFit s.store its.0.params rule.stages rule.args
  fit = held.types.rules number rule its.0 at its.1

  eight : length its.0.params ≤ 8
  eight = (all_found IsProcedure program rule.procedure its.0 is.1 its.1).params.0.1

  pub few_parameters : (parameter : ℕ) (stage : Stage) → slice_get rule.stages parameter ≡ Some stage → parameter < 8
  few_parameters parameter stage here = let inside = slice_get_within rule.stages parameter stage here in let many = stages_few s.store its.0.params rule.stages rule.args fit in omega (arith, inside, many, eight)

  pub low_datum : (parameter id : ℕ) → slice_get rule.args parameter ≡ Some (RightArg id) → id < s.store.next
  low_datum parameter id here = right_given s.store its.0.params rule.stages rule.args parameter id fit here

-- ---- along a run

pub small_numbers : (program : List Procedure) (inputs : List Input) (layout : ActorCounts) (history : List Event) (s : State) → IsProgram program → AreInputsOf program inputs → length history ≤ 1000000
    → reached program inputs layout history ≡ Went s → AreNumbersBelow (opening_bound + length history) s
small_numbers program inputs layout history s is given few e = numbers_along program layout history opening_bound (opening program inputs) s (opening_is_small program inputs is given).numbers e
