-- The replay of a run's trace prints the report of the run.
use Rattle.std.proofs.Common.{◌≡◌, ◌++◌, ℕ, suc, true, List, [], ◌∷◌, Option, Some, None, inl, inr, refl, sym, ap, subst, ◌∙◌}
use Rattle.std.specs.Prelude.{Result, Ok, Err}
use Rattle.std.proofs.lemmas.List.{append-nil}
use Rattle.tw_types.specs.declared.ending.Ending.{Ending}
use Rattle.tw_types.specs.declared.ending.Ending.TheVariants as ending
use Rattle.tw_types.specs.declared.event.Event.{Event}
use Rattle.tw_types.specs.declared.input.Input.{Input}
use Rattle.tw_types.specs.Layout.{ActorCounts}
use Rattle.tw_types.specs.Outcome.{Outcome, Went}
use Rattle.tw_types.proofs.Outcomes.{same_went, went_first}
use Rattle.tw_code.specs.declared.procedure.Procedure.{Procedure}
use Rattle.tw_code.specs.declared.version.Version.{Version}
use Rattle.tw_code.specs.accepting.MainShape.{has_main_shape}
use Rattle.tw_code.specs.format.Program.{IsProgram}
use Rattle.tw_code.specs.machine.Ending as machine
use Rattle.tw_code.specs.machine.Holders.{Typings}
use Rattle.tw_code.specs.machine.Inputs.{AreInputsOf}
use Rattle.tw_code.specs.machine.Machine.{run, step}
use Rattle.tw_code.specs.machine.Opening.{opening, reached}
use Rattle.tw_code.specs.machine.Pending.{circle}
use Rattle.tw_code.specs.machine.State.{State}
use Rattle.tw_soundness.specs.NoTrap.{AreRight}
use Rattle.tw_machine.specs.declared.rejection.OpenError.{OpenError}
use Rattle.tw_machine.specs.Opening.{rejection_of}
use Rattle.tw_order.specs.declared.runs.Answer.TheVariants as replayed
use Rattle.tw_order.specs.declared.runs.RunAnswer.TheVariants as run_answer
use Rattle.tw_order.specs.declared.runs.RunOrder.{RunOrder}
use Rattle.tw_source.specs.Reply.{Reply, reply}
use Rattle.tw_source.specs.declared.close.Close.{Close}
use Rattle.tw_report.specs.Report.{report, ending_lines}
use Rattle.tw_report.proofs.Histories.{one_history}
use Rattle.tw_replay_output.specs.Circle.{AreEndingDetails}
use Rattle.tw_replay_output.specs.Replay.{AreAnswerDetails, ByOutcome, IsAnswered, IsReason, OpensOr, after_event, close_of, played, state_reply}
use Rattle.tw_run_output.specs.Ends.{end_report}
use Rattle.tw_run_output.specs.Run as ran
use Rattle.tw_round_trip.specs.Replays.{IsReportOf, ReplaysPrintReports, closing_of, replay_of}
use Rattle.tw_round_trip.specs.Traces.{trace_lines}
use Rattle.tw_round_trip.proofs.Reading.{all_read_back}

-- ---- the events

pub all_played : (program : List Procedure) (layout : ActorCounts) (number : ℕ) (events : List Event) (s t : State) → run program layout events s ≡ Went t → played program layout number events s ≡ state_reply program t
unfolding run played
all_played program layout number [] s t e = ap (state_reply program) (same_went s t e)
all_played program layout number (event ∷ events) s t e =
    let one = went_first (step program layout event s) (run program layout events) t e in
    ap (λ (o : Outcome State). after_event number o (λ next. played program layout (suc number) events next)) one.1 ∙ all_played program layout (suc number) events one.0 t one.2

-- ---- the opening

none_refused : (program : List Procedure) (inputs : List Input) → has_main_shape program ≡ true → AreInputsOf program inputs → rejection_of program inputs ≡ None
none_refused program inputs main are = rw (main, are.count, are.fit) refl

-- ---- the report

-- a state that ended so is reported alike
same_report : (program : List Procedure) (s : State) (e : Ending) → machine.ending s ≡ Some e → state_reply program s ≡ reply (end_report program s (Some (closing_of e))) (ran.close_of (closing_of e))
same_report program s ending.Quiet is = ap (λ (o : Option Ending). reply (report s.store.live s.outputs (ending_lines o (circle program s))) (close_of o)) is
same_report program s (ending.Stuck rules) is = ap (λ (o : Option Ending). reply (report s.store.live s.outputs (ending_lines o (circle program s))) (close_of o)) is

-- and no line on a limit follows
no_limit : (text : Option (List ℕ)) (order : RunOrder) (e : Ending) → ran.limit_details text order (closing_of e) ≡ []
no_limit None order e = refl
no_limit (Some text) order ending.Quiet = refl
no_limit (Some text) order (ending.Stuck rules) = refl

ending_details : (text : List ℕ) (program : List Procedure) (order : RunOrder) (events : List Event) (s : State) (e : Ending) (more : List ℕ)
    → AreEndingDetails text (ran.start_of program order) events s (Some e) more → ran.AreClosingDetails text program order events s (closing_of e) more
ending_details text program order events s ending.Quiet more h = h
ending_details text program order events s (ending.Stuck rules) more h = h

module _ (program : List Procedure) (text : Option (List ℕ)) (order : RunOrder) (events : List Event) (s : State) (e : Ending) (is : machine.ending s ≡ Some e) where
  -- the details of the state to which the events lead
  details : (text : Option (List ℕ)) (more : List ℕ) → reached program order.inputs order.options.layout events ≡ Went s → AreAnswerDetails text replayed.Report (ran.start_of program order) events more
      → ran.AreRunDetails run_answer.Report text program order events s (closing_of e) more
  details None more goes h = h
  details (Some text) more goes h =
      ending_details text program order events s e more
      (subst (λ (o : Option Ending). AreEndingDetails text (ran.start_of program order) events s o more) is
      (subst (λ (o : Outcome State). ByOutcome o (λ t. AreEndingDetails text (ran.start_of program order) events t (machine.ending t) more) (IsReason more)) goes h))

  -- an answer to the events is the report
  answered : (version : Version) (r : Reply) → reached program order.inputs order.options.layout events ≡ Went s → IsAnswered text (replay_of order) (record { version = version; procedures = program }) events r → IsReportOf text program order events s e r
  answered version r goes (answer, more, played_is, more_is, joined) =
      let whole = played_is ∙ all_played program order.options.layout 1 events (opening program order.inputs) s goes ∙ same_report program s e is in
      let printed = ran.run_report text program order s (closing_of e) in
      let texts : answer.text ≡ printed = ap (λ (x : Reply). x.text) whole ∙ sym (append-nil _) ∙ ap (λ (l : List ℕ). end_report program s (Some (closing_of e)) ++ l) (sym (no_limit text order e)) in
      (printed, more, refl, details text more goes more_is, joined ∙ ap (λ (t : List ℕ). reply (t ++ more) answer.close) texts ∙ ap (λ (c : Close). reply (printed ++ more) c) (ap (λ (x : Reply). x.close) whole))

-- ---- the trace

events_is : (x y : List Event) → ◌≡◌ {A = Result (List Event) ℕ} (Ok x) (Ok y) → x ≡ y
events_is x y e = cc

pub replays_print : (program : List Procedure) (typings : Typings) → IsProgram program → AreRight program typings → ReplaysPrintReports program
replays_print program typings proper right version text order events s e rest r given laid short goes is (inl (read, trace, replays)) =
    let back = all_read_back program typings proper right order.inputs order.options.layout events s rest given laid short goes in
    let same : read ≡ events = events_is read events (one_history (trace_lines events rest) (Ok read) (Ok events) trace back) in
    let opens = subst (λ (o : Option OpenError). OpensOr text program order.inputs o (IsAnswered text (replay_of order) (record { version = version; procedures = program }) read r) r)
    (none_refused program order.inputs right.accepted.main given) replays in
    answered program text order events s e is version r goes (subst (λ (es : List Event). IsAnswered text (replay_of order) (record { version = version; procedures = program }) es r) same opens)
replays_print program typings proper right version text order events s e rest r given laid short goes is (inr (line, trace, refused)) =
    let back = all_read_back program typings proper right order.inputs order.options.layout events s rest given laid short goes in
    let never = one_history (trace_lines events rest) (Err line) (Ok events) trace back in
    absurd cc
