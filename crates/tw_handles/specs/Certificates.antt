-- Certificates of runs: whether another order of events may show in a run's outputs.
use Rattle.std.specs.Prelude.{◌≡◌, ◌≤◌, ◌==◌, ◌∷◌}
use Rattle.tw_handles.specs.Names.{[], ℕ, Bool, true, false, not, List, length, Option, Some, None, MatchOption, Input, ActorCounts, Procedure, AreInputsOf, CopyInsertion, IsOnlyResult, IsWholeRun, EndedRun, Closing, IsLeftOf}
use Rattle.tw_types.specs.declared.ending.Ending.{Ending}
use Rattle.tw_types.specs.declared.ending.Ending.TheVariants as ending
use Rattle.tw_types.specs.Outcome.{Went}
use Rattle.tw_code.specs.machine.Ending.{ending as ending_of}
use Rattle.tw_code.specs.machine.Opening.{reached}
use Rattle.tw_code.specs.machine.State.{State}
use Rattle.tw_certificate.specs.FirstContest.{IsFirstContest}
use Rattle.tw_pool.specs.declared.answer.Closing.TheVariants.{Quiet, Stuck}
use Rattle.tw_handles.specs.Asking.{Fails}
use Rattle.tw_handles.specs.Codes.{done, no_order}
use Rattle.tw_handles.specs.Numbers.{filled}
use Rattle.tw_handles.specs.declared.certificate.Certificate.{Certificate}
use Rattle.tw_handles.specs.declared.certificate.Certificate.TheVariants.{Contested, Cut, Same}

-- ---- which certificates a run may have

-- the run ended by itself, in the state that the report has, and its result is the only one
pub record IsOnlyReport (program : List Procedure) (inputs : List Input) (layout : ActorCounts) (left : EndedRun) : Type 0 where
  pub state : State
  pub end : Ending
  pub whole : IsWholeRun program inputs layout left.history.events state end
  pub shows : IsLeftOf program state left.outcome
  pub only : IsOnlyResult program inputs state end

-- the run was cut off: it hadn't ended by itself
pub record IsCutOff (program : List Procedure) (inputs : List Input) (layout : ActorCounts) (left : EndedRun) : Type 0 where
  pub state : State
  pub reaches : reached program inputs layout left.history.events ≡ Went state
  pub runs_on : ending_of state ≡ None

abbrev pub IsFirstIn : List Procedure → List Input → ActorCounts → EndedRun → Option CopyInsertion → Type 0
IsFirstIn program inputs layout left found = IsFirstContest program inputs layout left.history.events found

-- Holds for the first contested insertion; or the run contests none, and either has the only result or was cut off.
abbrev pub IsCertificate : List Procedure → List Input → ActorCounts → EndedRun → Certificate → Type 0
IsCertificate program inputs layout left Same = IsFirstIn program inputs layout left None × IsOnlyReport program inputs layout left
IsCertificate program inputs layout left (Contested at) = IsFirstIn program inputs layout left (Some at)
IsCertificate program inputs layout left Cut = IsFirstIn program inputs layout left None × IsCutOff program inputs layout left

-- holds for the certificate that a run has if it is asked for one
abbrev pub IsCertificateIf : Bool → List Procedure → List Input → ActorCounts → EndedRun → Option Certificate → Type 0
IsCertificateIf false program inputs layout left made = made ≡ None
IsCertificateIf true program inputs layout left made = (certificate : Certificate) × (made ≡ Some certificate) × IsCertificate program inputs layout left certificate

-- returns whether the number of an option asks for it
abbrev pub asks : ℕ → Bool
asks number = not (number == 0)

-- ---- in numbers

-- returns 0 for the same in every order, 1 with the procedure and the place, or 2 if the run was cut off
abbrev pub certificate_numbers : Certificate → List ℕ
certificate_numbers Same = 0 ∷ 0 ∷ 0 ∷ []
certificate_numbers (Contested at) = 1 ∷ at.procedure ∷ at.place ∷ []
certificate_numbers Cut = 2 ∷ 0 ∷ 0 ∷ []

-- holds if these are the certificate's numbers, or there is none
abbrev pub IsNumbered : Option Certificate → List ℕ → List ℕ → ℕ → Type 0
IsNumbered made old new code = MatchOption made (Fails no_order old new code) (λ certificate. (new ≡ filled (certificate_numbers certificate) old) × (code ≡ done))

-- ---- for private functions

-- returns how a run ended by itself, if it did
abbrev pub own_end : Option Closing → Option Ending
own_end (Some Quiet) = Some ending.Quiet
own_end (Some (Stuck rules)) = Some (ending.Stuck rules)
own_end closing = None

-- the facts about a finished run
pub record IsOfRun (program : List Procedure) (inputs : List Input) (layout : ActorCounts) (left : EndedRun) : Type 0 where
  pub given : AreInputsOf program inputs
  pub state : State
  pub reaches : reached program inputs layout left.history.events ≡ Went state
  pub few : length left.history.events ≤ 1000000
  pub shows : IsLeftOf program state left.outcome
  pub ends : own_end left.outcome.closing ≡ ending_of state

abbrev pub calm : Option Ending → Certificate
calm None = Cut
calm (Some end) = Same

-- returns the certificate for the first contested insertion of a run, and for how it ended
abbrev pub certificate_of : Option CopyInsertion → Option Closing → Certificate
certificate_of None closing = calm (own_end closing)
certificate_of (Some at) closing = Contested at
