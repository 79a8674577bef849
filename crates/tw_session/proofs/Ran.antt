-- The end of a run is as its definition says.
use Rattle.tw_session.proofs.SessionNames.{Bool, Closed, EndsSo, Err, IfOk, Input, IsAtEnd, IsLeftIf, IsOrdered, IsRun, IsRunMade, Limit, List, MayOpen, None, Ok, Option, Procedure, RepliesByClose, RepliesByEnd, Result, Run, Some, EndedRun, Stopped, ap, eqb-true, false, if◌then◌else◌, inl, inr, length, may_be_stopped, opened, reached, refl, reply, run_as, run_of, subst, sym, true, unwrap_or, ℕ, ◌++◌, ◌==◌, ◌∙◌, ◌≡◌, ◌≤◌, ◌⊎◌}
use Rattle.std.specs.Option.{option_map, option_or}
use Rattle.std.specs.Result.{IfErr}
use Rattle.tw_types.specs.declared.ending.Ending.{Ending}
use Rattle.tw_types.specs.declared.ending.Ending.TheVariants as ending
use Rattle.tw_types.specs.declared.event.Event.{Event}
use Rattle.tw_types.specs.Outcome.{Went}
use Rattle.tw_code.specs.machine.Ending.{ending}
use Rattle.tw_code.specs.machine.State.{State}
use Rattle.tw_verify.specs.Typed.{TypedProgram}
use Rattle.tw_in_turn.specs.InTurn.{HasEnded}
use Rattle.tw_in_turn.specs.Stopping.{EndsAfter, closing_at_end, cut_of, is_stop, left_closing}
use Rattle.tw_in_turn.specs.declared.rounds.End.{End}
use Rattle.tw_in_turn.specs.declared.rounds.End.TheVariants as stop
use Rattle.tw_pool.specs.declared.answer.Closing.{Closing}
use Rattle.tw_pool.specs.Ends.{FinalView, IsClosedPool}
use Rattle.tw_pool.specs.History.{HistoryView}
use Rattle.tw_pool.specs.Turns.{closing_of}
use Rattle.tw_pool.specs.Openings.{IsRejection}
use Rattle.tw_pool.specs.declared.open.OpenError.{OpenError}
use Rattle.tw_pool.specs.PoolView.{PoolView}
use Rattle.tw_order.specs.declared.runs.RunOrder.{RunOrder}
use Rattle.tw_run_output.specs.Ends.{IsReportAs, end_report}
use Rattle.tw_run_output.specs.Json.{IsEndLine, members_of, run_line}
use Rattle.tw_run_output.specs.Over.{IsRunOver}
use Rattle.tw_run_output.specs.Run.{AreRunDetails, IsRunText, close_of, trace_text}
use Rattle.tw_source.specs.declared.reply.Reply.{Reply as MadeReply}
use Rattle.tw_session.specs.declared.programs.RunRequest.{RunRequest}

-- from how the run has ended by itself, whether it was stopped, and whether the number of events is at its limit
abbrev closing_by : Option Ending → (stopped full : Bool) → Option Closing
closing_by e stopped full = option_or (option_map closing_of e) (if stopped then Some Stopped else if full then Some Limit else None)

same : {a b : Closing} → Some a ≡ Some b → a ≡ b
same e = cc

-- holds if a run ended so, from how its results say that it did; only one that may be stopped was
abbrev pub IsEndOf : RunOrder → Option Closing → Closing → Type 0
IsEndOf order over closing =
    ((over ≡ Some closing) × (closing ≡ Stopped → may_be_stopped order.options ≡ true)) ⊎ ((over ≡ None) × (closing ≡ Stopped) × (may_be_stopped order.options ≡ true))

-- of one that was stopped, though it may have ended before
stopped_end : (order : RunOrder) (over : Option Closing) → may_be_stopped order.options ≡ true → IsEndOf order over (unwrap_or over Stopped)
stopped_end order None may = inr (refl, refl, may)
stopped_end order (Some closing) may = inl (refl, λ stopped. may)

ends_so : (order : RunOrder) (history : List Event) (s : State) (e : Option Ending) (stopped full : Bool) (closing : Closing)
    → ending s ≡ e → (full ≡ true → length history ≡ order.options.limit) → closing_by e stopped full ≡ Some closing → (closing ≡ Stopped → may_be_stopped order.options ≡ true) → EndsSo order history s closing
ends_so order history s (Some ending.Quiet) stopped full closing is at printed may = subst (EndsSo order history s) (same printed) is
ends_so order history s (Some (ending.Stuck rules)) stopped full closing is at printed may = subst (EndsSo order history s) (same printed) is
ends_so order history s None true full closing is at printed may = subst (EndsSo order history s) (same printed) (may (sym (same printed)), is)
ends_so order history s None false true closing is at printed may = subst (EndsSo order history s) (same printed) (at refl, is)
ends_so order history s None false false closing is at printed may = absurd (let never : None ≡ Some closing = printed in cc)

no_ending : (e : Option Ending) (stopped full : Bool) → closing_by e stopped full ≡ None → e ≡ None
no_ending None stopped full none = refl
no_ending (Some ending.Quiet) stopped full none = cc
no_ending (Some (ending.Stuck rules)) stopped full none = cc

ends_as : (order : RunOrder) (history : List Event) (s : State) (stopped full : Bool) (closing : Closing)
    → (full ≡ true → length history ≡ order.options.limit) → IsEndOf order (closing_by (ending s) stopped full) closing → EndsSo order history s closing
ends_as order history s stopped full closing at (inl (is, may)) = ends_so order history s (ending s) stopped full closing refl at is may
ends_as order history s stopped full closing at (inr (none, cut, may)) = subst (EndsSo order history s) (sym cut) (may, no_ending (ending s) stopped full none)

-- for a run that ended so
pub over : (verified : TypedProgram) (order : RunOrder) (p : PoolView) (final : FinalView) (history : HistoryView) (cut : ℕ) (closing : Closing)
    → run_of p ≡ run_as verified order → length p.history ≤ order.options.limit → IsClosedPool p final history → IsOrdered order.options.in_turn verified.program order p.history cut → IsEndOf order final.closing closing
    → (o : IsRunOver verified.program order final history.events closing) × IsRun verified.program order history.events cut o.state closing
over verified order p final history cut closing of_run few shut turns ended =
    let s = shut.state in
    let here : EndsSo order history.events s closing =
    ends_as order history.events s p.stopped (length p.history == p.limit) closing (λ full. ap (λ (es : List Event). length es) shut.events ∙ (eqb-true (length p.history) p.limit full ∙ ap (λ (r : Run). r.limit) of_run))
    (subst (λ (o : Option Closing). IsEndOf order o closing) shut.closing ended) in
    let leads : reached verified.program order.inputs order.options.layout p.history ≡ Went s =
    subst (λ (r : Run). reached r.program.program r.inputs r.layout p.history ≡ Went s) of_run shut.has_state in
    let short = subst (λ (es : List Event). length es ≤ order.options.limit) (sym shut.events) few in
    let there : reached verified.program order.inputs order.options.layout history.events ≡ Went s = subst (λ (es : List Event). reached verified.program order.inputs order.options.layout es ≡ Went s) (sym shut.events) leads in
    let reports : (printed : List ℕ) → IsReportAs final (Some closing) printed → printed ≡ end_report verified.program s (Some closing) = λ printed is_report. is_report p history shut ∙ ap (λ (r : Run). end_report r.program.program s (Some closing)) of_run in
    let shows : (cut : ℕ) (line : List ℕ) → IsEndLine final history.events cut closing line → line ≡ run_line verified.program history.events cut s closing = λ cut line is_line. is_line p history shut ∙ ap (λ (r : Run). run_line r.program.program history.events cut s closing) of_run in (
      record { state = s; few = short; reaches = there; reports = reports; members = λ cut found are. are p history shut ∙ ap (λ (r : Run). members_of r.program.program history.events cut s closing) of_run; shows = shows },
      record { few = short; reaches = there; ends = here; turns = subst (λ (es : List Event). IsOrdered order.options.in_turn verified.program order es cut) (sym shut.events) turns },
    )

-- the output of a run is a reply of it
pub replied : {E : Type 0} (made : Result MadeReply E) (text : Option (List ℕ)) (program : List Procedure) (order : RunOrder) (final : FinalView) (events : List Event) (cut : ℕ) (closing : Closing)
    → ((o : IsRunOver program order final events closing) × IsRun program order events cut o.state closing)
    → IfOk made (λ r. (o : IsRunOver program order final events closing) → (printed : List ℕ) × (more : List ℕ) × IsRunText order.options.answer text program order events cut o.state closing printed
    × AreRunDetails order.options.answer text program order events o.state closing more × (reply r.text.items r.close ≡ reply (trace_text order.options.trace events ++ (printed ++ more)) (close_of closing)))
    → IfOk made (λ r. RepliesByEnd text program order (reply r.text.items r.close))
replied (Ok r) text program order final events cut closing (o, is) h = let t = h o in (events, cut, o.state, closing, t.0, t.1, is, t.2, t.3, t.4)
replied (Err e) text program order final events cut closing over h = tt

-- and a reply to a closed run
pub replied_close : {E : Type 0} (made : Result MadeReply E) (text : Option (List ℕ)) (program : List Procedure) (order : RunOrder) (closed : Closed) → IfOk made (λ r. RepliesByEnd text program order (reply r.text.items r.close))
    → IfOk made (λ r. RepliesByClose text program order closed (reply r.text.items r.close))
replied_close (Ok r) text program order closed h = inl h
replied_close (Err e) text program order closed h = tt

-- with threads nothing more is required
pub in_threads : (program : List Procedure) (order : RunOrder) (history : List Event) (cut : ℕ) → order.options.in_turn ≡ false → IsOrdered order.options.in_turn program order history cut
in_threads program order history cut threads = subst (λ b. IsOrdered b program order history cut) (sym threads) tt

-- single-threaded, the trace is the one that the actors make
pub in_turn : (verified : TypedProgram) (order : RunOrder) (p : PoolView) (cut : ℕ) → IsAtEnd order (opened verified order.inputs order.options.layout order.options.limit) p cut → IsOrdered order.options.in_turn verified.program order p.history cut
in_turn verified order p cut comes = by order.options.in_turn
  where
    by : (turns : Bool) → IsOrdered turns verified.program order p.history cut
    by true = record { verified = verified; is = refl; last = p; comes = comes; made = refl }
    by false = tt

-- of what a run in one thread left
pub left_over : (verified : TypedProgram) (order : RunOrder) (left : EndedRun) (cut : ℕ) (closing : Closing) → IsLeftIf (may_be_stopped order.options) order.options.seed (opened verified order.inputs order.options.layout order.options.limit) left
    → cut ≡ cut_of left.end → left_closing left ≡ Some closing → (o : IsRunOver verified.program order left.outcome left.history.events closing) × IsRun verified.program order left.history.events cut o.state closing
left_over verified order left cut closing (turns, (p, comes, shut, ended), may) cut_is is =
    over verified order p left.outcome left.history cut closing (ap run_of shut.of_first) shut.within shut.shut (in_turn verified order p cut (subst (IsAtEnd order first p) (sym cut_is) (at_end left.end comes may is))) (ends left.end ended may is)
  where
    first : PoolView
    first = opened verified order.inputs order.options.layout order.options.limit

    at_end : (end : End) → EndsAfter order.options.seed first turns end p → (is_stop end ≡ true → may_be_stopped order.options ≡ true) → closing_at_end end left.outcome.closing ≡ Some closing → IsAtEnd order first p (cut_of end)
    at_end stop.Over over may is = inl (over.0, refl)
    at_end stop.NoMemory failed may is = absurd (let never : None ≡ Some closing = is in cc)
    at_end (stop.Stopped n) stopped may is = inr (turns, may refl, stopped.0, stopped.1)

    ends : (end : End) → (end ≡ stop.Over → HasEnded left.outcome.closing) → (is_stop end ≡ true → may_be_stopped order.options ≡ true) → closing_at_end end left.outcome.closing ≡ Some closing → IsEndOf order left.outcome.closing closing
    ends stop.Over ended may is = inl (is, λ stopped. absurd (subst HasEnded (is ∙ ap Some stopped) (ended refl)))
    ends stop.NoMemory ended may is = absurd (let never : None ≡ Some closing = is in cc)
    ends (stop.Stopped n) ended may is = subst (IsEndOf order left.outcome.closing) (same is) (stopped_end order left.outcome.closing (may refl))

-- what a run in one thread leaves, with the inputs and the limit that are ordered
pub made_as : (made : Result EndedRun OpenError) (may : Bool) (run : RunRequest) (inputs : List Input) (limit : ℕ) → inputs ≡ run.order.inputs → limit ≡ run.order.options.limit
    → IfOk made (λ left. MayOpen run.verified.program inputs run.order.options.layout limit) → IfOk made (IsLeftIf may run.order.options.seed (opened run.verified inputs run.order.options.layout limit))
    → IfErr made (IsRejection run.verified.program inputs run.order.options.layout limit) → IsRunMade may run made
made_as (Ok left) may run inputs limit same most allowed is refused =
    let runs : List Input → ℕ → Type 0 = λ i l. MayOpen run.verified.program i run.order.options.layout l × IsLeftIf may run.order.options.seed (opened run.verified i run.order.options.layout l) left in
    subst (λ (l : ℕ). runs run.order.inputs l) most (subst (λ (i : List Input). runs i limit) same (allowed, is))
made_as (Err why) may run inputs limit same most allowed is refused =
    subst (λ (l : ℕ). IsRejection run.verified.program run.order.inputs run.order.options.layout l why) most (subst (λ (i : List Input). IsRejection run.verified.program i run.order.options.layout limit why) same refused)
