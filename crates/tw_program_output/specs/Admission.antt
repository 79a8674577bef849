-- Programs that aren't admitted, because their bounds are above a cap.
use Rattle.std.specs.Prelude.{◌≡◌, ◌≢◌, ◌⊎◌, ◌||◌, ◌+◌, ◌<◌, ◌≤◌, ℕ, Bool, true, false, List, [], ◌++◌, codes, decimal, Option, Some, if◌then◌else◌, nat_le, nat_lt, slice_get}
use Rattle.tw_types.specs.declared.event.Event.{Event}
use Rattle.tw_types.specs.declared.input.Input.{Input}
use Rattle.tw_types.specs.Layout.{ActorCounts}
use Rattle.tw_types.specs.Outcome.{Went}
use Rattle.tw_code.specs.accepting.Flow.{flows}
use Rattle.tw_code.specs.accepting.Walk.{IsBudget}
use Rattle.tw_code.specs.declared.procedure.Procedure.{Procedure}
use Rattle.tw_code.specs.machine.Inputs.{AreInputsOf}
use Rattle.tw_code.specs.machine.Opening.{opening, reached}
use Rattle.tw_code.specs.machine.State.{State}
use Rattle.tw_bounds.specs.declared.bound.Bound.{Bound}
use Rattle.tw_bounds.specs.declared.bound.Bound.TheVariants.{AtMost, Over, Endless}
use Rattle.tw_bounds.specs.declared.limited.LimitedBounds.{LimitedBounds}
use Rattle.tw_bounds.specs.Contents.{bytes_held, members_held}
use Rattle.tw_bounds.specs.Least.{AreLeastBounds, IsShort}
use Rattle.tw_bounds.specs.Limited.{IsLargestBudget}
use Rattle.tw_bounds.specs.Runs.{instructions_in, tasks_in}
use Rattle.tw_order.specs.declared.caps.Caps.{Caps}
use Rattle.tw_order.specs.Orders.{greatest_cap}
use Rattle.tw_source.specs.Failure.{coded, failed_with}
use Rattle.tw_source.specs.declared.failure.Position.TheVariants as position
use Rattle.tw_source.specs.Reply.{Reply, reply}
use Rattle.tw_code.specs.accepting.WellTyped.{IsAccepted}
use Rattle.tw_order.specs.declared.form.Places.{Places}
use Rattle.tw_program_output.specs.Rejection.{RepliesByRejection}
use Rattle.tw_program_output.specs.declared.acceptance.Admitted.{Admitted}
use Rattle.tw_program_output.specs.declared.acceptance.Admitted.TheVariants.{Run, Rejected}

-- holds for a bound up to the cap; no bound, or one over the largest, is within the greatest cap alone
abbrev pub is_within : Bound → ℕ → Bool
is_within (AtMost n) most = nat_le n most
is_within Over most = nat_le greatest_cap most
is_within Endless most = nat_le greatest_cap most

abbrev pub excess_bound : Bound → List ℕ
excess_bound (AtMost n) = codes "bound " ++ decimal n
excess_bound Over = codes "bound over 1000000000000"
excess_bound Endless = codes "no bound"

abbrev pub excess_line : List ℕ → Bound → ℕ → List ℕ
excess_line kind bound most = kind ++ (codes ": " ++ (excess_bound bound ++ (codes ", at most " ++ (decimal most ++ codes "\n"))))

-- returns the line for a bound above its cap, or nothing
abbrev pub excess : List ℕ → Bound → ℕ → List ℕ
excess kind bound most = if is_within bound most then [] else excess_line kind bound most

-- returns the lines for all bounds above their caps
abbrev pub excess_lines : Caps → LimitedBounds → ℕ → List ℕ
excess_lines caps bounds budget =
    excess (codes "tasks") bounds.tasks caps.tasks
    ++ (excess (codes "instructions") bounds.instructions caps.instructions
    ++ (excess (codes "data") bounds.«data» caps.«data»
    ++ (excess (codes "bytes") bounds.bytes caps.bytes
    ++ (excess (codes "budget") (AtMost budget) caps.budget
    ++ (excess (codes "members") bounds.members caps.members
    ++ excess (codes "rules") bounds.rules caps.rules)))))

abbrev pub has_cap : Caps → Bool
has_cap caps =
    nat_lt caps.tasks greatest_cap || (nat_lt caps.instructions greatest_cap || (nat_lt caps.«data» greatest_cap || (nat_lt caps.bytes greatest_cap
    || (nat_lt caps.budget greatest_cap || (nat_lt caps.members greatest_cap || nat_lt caps.rules greatest_cap)))))

-- holds for the lines for the program's bounds above the caps, if there is a cap
abbrev pub AreExcessLines : Bool → List Procedure → Option ℕ → Caps → List ℕ → Type 0
AreExcessLines false program limit caps text = text ≡ []
AreExcessLines true program limit caps text =
    (bounds : LimitedBounds) × (budget : ℕ) × AreLeastBounds program limit bounds × IsLargestBudget program budget × (text ≡ excess_lines caps bounds budget)

-- ---- what is admitted

-- a run with these events, which led to this state, is within the caps that are given
pub record IsRunWithinCaps (program : List Procedure) (caps : Caps) (inputs : List Input) (events : List Event) (s : State) : Type 0 where
  pub tasks : caps.tasks < greatest_cap → tasks_in events ≤ caps.tasks
  pub instructions : caps.instructions < greatest_cap → instructions_in events ≤ caps.instructions
  pub new_data : caps.«data» < greatest_cap → s.store.next ≤ (opening program inputs).store.next + caps.«data»
  pub bytes : caps.bytes < greatest_cap → bytes_held s ≤ bytes_held (opening program inputs) + caps.bytes
  pub members : caps.members < greatest_cap → members_held s.store ≤ members_held (opening program inputs).store + caps.members
  pub rules : caps.rules < greatest_cap → s.next_rule ≤ (opening program inputs).next_rule + caps.rules

-- with any inputs and layout, each run that the limit allows is within the caps, and so is each budget
pub record StaysWithinCaps (program : List Procedure) (limit : Option ℕ) (caps : Caps) : Type 0 where
  pub runs : (inputs : List Input) (layout : ActorCounts) (events : List Event) (s : State) → AreInputsOf program inputs → IsShort limit events → reached program inputs layout events ≡ Went s
      → IsRunWithinCaps program caps inputs events s
  pub budgets : caps.budget < greatest_cap → (k : ℕ) (p : Procedure) (budget : ℕ) → slice_get program k ≡ Some p → IsBudget (flows p.code) budget → budget ≤ caps.budget

-- holds for whether no bound of the program is above its cap, so that it stays within the caps
abbrev pub IsJudged : List Procedure → Option ℕ → Caps → Bool → Type 0
IsJudged program limit caps true = AreExcessLines (has_cap caps) program limit caps [] × StaysWithinCaps program limit caps
IsJudged program limit caps false = (lines : List ℕ) × AreExcessLines (has_cap caps) program limit caps lines × (lines ≢ [])

abbrev pub IsAdmitted : List Procedure → Option ℕ → Caps → Type 0
IsAdmitted program limit caps = IsAccepted program × IsJudged program limit caps true

-- holds for the reply to any other program: the lines for the bounds above their caps, or the verifier's error
abbrev pub IsRejected : Places → Option (List ℕ) → List Procedure → Option ℕ → Caps → Reply → Type 0
IsRejected places text program limit caps r =
    (IsAccepted program × ((lines : List ℕ) × AreExcessLines (has_cap caps) program limit caps lines × (lines ≢ []) × (r ≡ failed_with (coded 79 7 position.Nowhere) lines)))
    ⊎ RepliesByRejection places text program r

-- hold for the reply to an admitted program, or for the program itself; or for the reply that rejects it
abbrev pub RepliesIfAdmitted : Places → Option (List ℕ) → List Procedure → Option ℕ → Caps → (Reply → Type 0) → Reply → Type 0
RepliesIfAdmitted places text program limit caps Answers r = (IsAdmitted program limit caps × Answers r) ⊎ IsRejected places text program limit caps r

abbrev pub IsAdmittedOr : Places → Option (List ℕ) → List Procedure → Option ℕ → Caps → Admitted → Type 0
IsAdmittedOr places text program limit caps (Run verified) = (verified.program ≡ program) × IsAdmitted program limit caps
IsAdmittedOr places text program limit caps (Rejected r) = IsRejected places text program limit caps (reply r.text.items r.close)
