-- The theorems, if the core machine follows each event.
use Rattle.std.proofs.Common.{◌≡◌, ℕ, Bool, true, false, List, Some, refl, sym, ap, subst, ◌∙◌, slice_get}
use Rattle.tw_determinism.proofs.MachineNames.{ActorCounts, ArePartOf, AreRight, ContestsNone, CopiesNone, Ending, Event, Input, IsDeterministic, IsHeld, IsOnlyIfUncontested, IsOnlyIfUnrefused, IsOnlyResult, IsProgram, IsWholeRun, NeverContests, Procedure, RefusesNone, SameOutputs, State, Typings, Went, accepted, accepts, ending, none_copied, opened_held, opening, output_is_live, reached, run_lasts, total}
use Rattle.tw_code.specs.machine.Inputs.{AreInputsOf}
use Rattle.tw_determinism.proofs.Contesting.{uncontested_if, uncontested_uncopied, unrefused_if}
use Rattle.tw_determinism.proofs.Alike.{Follows, FollowsEach, Led, run_goes, run_led}
use Rattle.tw_determinism.proofs.Begun.{Begins, begins}
use Rattle.tw_determinism.proofs.Finding.{parts_found, same_found}
use Rattle.tw_determinism.proofs.CoreEffects.{Net}
use Rattle.tw_determinism.proofs.CoreMachine.{IsOver}
use Rattle.tw_determinism.proofs.Later.{path_later}
use Rattle.tw_determinism.proofs.Paths.{path_over}
use Rattle.tw_determinism.proofs.Quieting.{end_of, ends_by, over_shown}
use Rattle.tw_determinism.proofs.Showing.{Shows, alive}

module _ (program : List Procedure) (typings : Typings) (proper : IsProgram program) (are : AreRight program typings) (follows : FollowsEach program typings) where
  -- an uncontested run that ends, if at first all data count as copied, or none does
  record IsFirst (start : Bool) (inputs : List Input) (layout : ActorCounts) (events : List Event) (s : State) (end : Ending) : Type 0 where
    given : AreInputsOf program inputs
    goes : reached program inputs layout events ≡ Went s
    ends : ending s ≡ Some end
    none : ContestsNone program layout (λ id. start) events (opening program inputs)

  module _ (start : Bool) (inputs : List Input) (layout other : ActorCounts) (events others : List Event) (s t : State) (first : Ending) (whole : IsFirst start inputs layout events s first) (goes : reached program inputs other others ≡ Went t) where
    abbrev held : IsHeld program typings (opening program inputs)
    held = opened_held program typings proper are inputs whole.given

    abbrev begun : Begins program typings inputs start
    begun = begins program typings inputs start held

    -- the whole run
    abbrev one : Follows program typings proper are follows layout events (opening program inputs) s begun.names begun.net
    one = run_goes program typings proper are follows layout events (opening program inputs) s begun.names begun.net held begun.shows whole.goes (subst (λ c. ContestsNone program layout c events (opening program inputs)) (sym begun.copied) whole.none)

    over : IsOver program one.to
    over = over_shown program typings s one.held first whole.ends one.names one.to one.shows

    -- the other run
    abbrev two : Led program typings proper are follows other others (opening program inputs) t begun.names begun.net one.to
    two = run_led program typings proper are follows other others (opening program inputs) t begun.names begun.net one.to one.steps held begun.shows one.path over goes

    uncontested : ContestsNone program other (λ id. start) others (opening program inputs)
    uncontested = subst (λ c. ContestsNone program other c others (opening program inputs)) begun.copied two.none

    outputs_of : (layout : ActorCounts) (events : List Event) (x : State) → reached program inputs layout events ≡ Went x → x.outputs ≡ (opening program inputs).outputs
    outputs_of layout events x e = (run_lasts program typings (accepted program typings (accepts program typings proper are)) layout events (opening program inputs) x held e).outputs

    same_outputs : t.outputs ≡ s.outputs
    same_outputs = outputs_of other others t goes ∙ sym (outputs_of layout events s whole.goes)

    same_names : (k id : ℕ) → slice_get s.outputs k ≡ Some id → two.way.names.datum id ≡ one.names.datum id
    same_names k id at =
        let live = output_is_live program typings (opening program inputs) held k id (ap (λ z. slice_get z k) (sym (outputs_of layout events s whole.goes)) ∙ at) in
        let less = held.types.store.fresh id live.0 live.1 in
        two.way.agree id less ∙ sym (one.agree id less)

    part : ArePartOf t s
    part =
        parts_found program typings t s two.way.held one.held two.way.names one.names two.way.to one.to two.way.shows one.shows
        (path_later program two.rest.0 two.way.to one.to two.way.shows.made two.rest.1) first whole.ends same_outputs same_names

    module _ (second : Ending) (ends : ending t ≡ Some second) where
      same_net : two.way.to ≡ one.to
      same_net = path_over program two.rest.0 two.way.to one.to two.rest.1 (over_shown program typings t two.way.held second ends two.way.names two.way.to two.way.shows)

      same_end : second ≡ first
      same_end = ends_by program typings t second ends two.way.names two.way.to two.way.shows ∙ ap (λ (m : Net). end_of (total alive m.threads)) same_net ∙ sym (ends_by program typings s first whole.ends one.names one.to one.shows)

      alike : SameOutputs t s
      alike = same_found program typings t s two.way.held one.held two.way.names one.names one.to (subst (Shows program typings two.way.names t) same_net two.way.shows) one.shows second first ends whole.ends same_outputs same_names

  only_result : (start : Bool) (inputs : List Input) (layout : ActorCounts) (events : List Event) (s : State) (end : Ending) → IsFirst start inputs layout events s end → IsOnlyResult program inputs s end
  only_result start inputs layout events s end one = record {
    ends_alike = λ other others t second goes ends.
        (same_end start inputs layout other events others s t end one goes second ends, alike start inputs layout other events others s t end one goes second ends);
    comes_before = λ other others t goes. part start inputs layout other events others s t end one goes;
  }

  -- nothing is refused: as if all had been copied
  refused_first : (inputs : List Input) (layout : ActorCounts) (events : List Event) (s : State) (end : Ending) → IsWholeRun program inputs layout events s end → RefusesNone program layout events (opening program inputs)
      → IsFirst true inputs layout events s end
  refused_first inputs layout events s end whole none =
      record { given = whole.given; goes = whole.goes; ends = whole.ends; none = uncontested_if program layout events (λ id. true) (opening program inputs) (λ id. refl) none }

  pub unrefused : IsOnlyIfUnrefused program
  unrefused = record {
    only = λ inputs layout events s end whole none. only_result true inputs layout events s end (refused_first inputs layout events s end whole none);
    never = λ inputs layout events s end whole none other others t goes.
        unrefused_if program other others (λ id. true) (opening program inputs) (λ id. refl) (uncontested true inputs layout other events others s t end (refused_first inputs layout events s end whole none) goes);
  }

  -- nothing is contested
  contested_first : (inputs : List Input) (layout : ActorCounts) (events : List Event) (s : State) (end : Ending) → IsWholeRun program inputs layout events s end → ContestsNone program layout none_copied events (opening program inputs)
      → IsFirst false inputs layout events s end
  contested_first inputs layout events s end whole none = record { given = whole.given; goes = whole.goes; ends = whole.ends; none = none }

  pub uncontested_only : IsOnlyIfUncontested program
  uncontested_only = record {
    only = λ inputs layout events s end whole none. only_result false inputs layout events s end (contested_first inputs layout events s end whole none);
    never = λ inputs layout events s end whole none other others t goes. uncontested false inputs layout other events others s t end (contested_first inputs layout events s end whole none) goes;
  }

  pub deterministic : NeverContests program → IsDeterministic program
  deterministic never inputs layout events s end whole = uncontested_only.only inputs layout events s end whole (never inputs layout events whole.given)

-- nothing is ever contested
pub never_contests : (program : List Procedure) → CopiesNone program → NeverContests program
never_contests program none inputs layout events given = uncontested_uncopied program none layout events (λ id. false) (opening program inputs) (λ id. refl)
