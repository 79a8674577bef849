-- The lines after the report of a run, and all of its output.
use Rattle.std.proofs.Common.{◌≡◌, ◌++◌, ◌∙◌, ℕ, List, [], Option, Some, None, append_assoc, refl, sym, ap, subst}
use Rattle.std.proofs.lemmas.List.{append-nil}
use Rattle.tw_run_output.proofs.RunNames.{Event, Procedure, State, Went, begins, circle, start_of, text_of}
use Rattle.tw_order.specs.declared.runs.RunAnswer.{RunAnswer}
use Rattle.tw_order.specs.declared.runs.RunOrder.{RunOrder}
use Rattle.tw_pool.specs.declared.answer.Closing.{Closing}
use Rattle.tw_pool.specs.declared.answer.Closing.TheVariants.{Quiet, Stuck, Stopped, Limit}
use Rattle.tw_machine.specs.PlainView.{PlainView}
use Rattle.tw_replay_output.specs.Circle.{PrintsCircle, Start, reached_from}
use Rattle.tw_replay_output.specs.Stuck.{IsReplayFrom, IsReplayOf}
use Rattle.tw_replay_output.specs.declared.replaying.Replaying.{Replaying}
use Rattle.tw_replay_output.proofs.Behinds.{Adds, nothing_added}
use Rattle.tw_run_output.specs.Over.{stuck_source}
use Rattle.tw_run_output.specs.Run.{AreReportedDetails, AreRunDetails, IsRunOutput, IsRunText}
use Rattle.tw_source.specs.declared.source.SourceText.{SourceText}

-- ---- a stuck run's text

none_some : {Z : Type 0} (t : SourceText) → None ≡ Some t → Z
none_some t e = absurd cc

some_none : {Z : Type 0} (t : SourceText) → Some t ≡ None → Z
some_none t e = absurd cc

pub stuck_is : (source : Option SourceText) (c : Closing) (t : SourceText) → stuck_source source c ≡ Some t → source ≡ Some t
stuck_is source (Stuck rules) t is = is
stuck_is source Quiet t is = none_some t is
stuck_is source Stopped t is = none_some t is
stuck_is source Limit t is = none_some t is

module _ (program : List Procedure) (order : RunOrder) (events : List Event) (s : State) where
  pub circle_printed : (source : Option SourceText) (c : Closing) (t : SourceText) (old new : List ℕ) → stuck_source source c ≡ Some t → Adds (PrintsCircle t.text.now (start_of program order) events (circle program s)) old new
      → Adds (AreReportedDetails (text_of source) program order events s c) old new
  circle_printed source (Stuck rules) t old new is h = subst (λ (o : Option SourceText). Adds (AreReportedDetails (text_of o) program order events s (Stuck rules)) old new) (sym is) h
  circle_printed source Quiet t old new is h = none_some t is
  circle_printed source Stopped t old new is h = none_some t is
  circle_printed source Limit t old new is h = none_some t is

  pub no_circle : (source : Option SourceText) (c : Closing) (old : List ℕ) → stuck_source source c ≡ None → Adds (AreReportedDetails (text_of source) program order events s c) old old
  no_circle None c old is = nothing_added (AreReportedDetails None program order events s c) old refl
  no_circle (Some t) (Stuck rules) old is = some_none t is
  no_circle (Some t) Quiet old is = nothing_added (AreReportedDetails (Some t.text.now) program order events s Quiet) old refl
  no_circle (Some t) Stopped old is = nothing_added (AreReportedDetails (Some t.text.now) program order events s Stopped) old refl
  no_circle (Some t) Limit old is = nothing_added (AreReportedDetails (Some t.text.now) program order events s Limit) old refl

-- ---- a replay of the run

went_is : (s t : State) → Went s ≡ Went t → s ≡ t
went_is s t e = cc

-- its state is the run's
pub circle_reached : (text : List ℕ) (start : Start) (events : List Event) (r : Replaying) (s : State) (old new : List ℕ) → IsReplayOf start events r → reached_from start events ≡ Went s
    → Adds (PrintsCircle text start events (circle start.program r.plain.state)) old new → Adds (PrintsCircle text start events (circle start.program s)) old new
circle_reached text start events r s old new replay goes h =
    subst (λ (t : State). Adds (PrintsCircle text start events (circle start.program t)) old new) (went_is r.plain.state s (sym replay.leads ∙ goes)) h

-- it begins at the run's start
pub replay_there : (program : List Procedure) (order : RunOrder) (first : PlainView) (read events : List Event) (r : Replaying) → first ≡ begins first.version program order → read ≡ events → IsReplayFrom first read r
    → IsReplayOf (start_of program order) events r
replay_there program order first read events r same all from =
    subst (λ (es : List Event). IsReplayOf (start_of program order) es r) all
    (from.replay (start_of program order) (record { program = ap (λ (v : PlainView). v.program) same; layout = ap (λ (v : PlainView). v.layout) same; state = ap (λ (v : PlainView). v.state) same }))

-- ---- output

module _ (given answer : RunAnswer) (is : given ≡ answer) (text : Option (List ℕ)) (program : List Procedure) (order : RunOrder) (events : List Event) (cut : ℕ) (s : State) (closing : Closing) (old : List ℕ) where
  abbrev pub Prints : RunAnswer → List ℕ → Type 0
  Prints a new = Adds (IsRunOutput a text program order events cut s closing) old new

  -- without lines at the end
  pub alone : (printed new : List ℕ) → IsRunText answer text program order events cut s closing printed → AreRunDetails answer text program order events s closing [] → new ≡ old ++ printed → Prints given new
  alone printed new prints none added = subst (λ (a : RunAnswer). Prints a new) (sym is) (printed, (printed, [], prints, none, sym (append-nil printed)), added)

  -- after a report
  pub ended : (printed more middle new : List ℕ) → IsRunText answer text program order events cut s closing printed → AreRunDetails answer text program order events s closing more → middle ≡ old ++ printed → new ≡ middle ++ more → Prints given new
  ended printed more middle new prints are added whole =
      subst (λ (a : RunAnswer). Prints a new) (sym is) (printed ++ more, (printed, more, prints, are, refl), whole ∙ ap (λ (t : List ℕ). t ++ more) added ∙ append_assoc old printed more)

  -- after a report and other lines
  pub ended_after : (printed lines more middle new : List ℕ) → IsRunText answer text program order events cut s closing (printed ++ lines) → AreRunDetails answer text program order events s closing more → middle ≡ old ++ printed
      → new ≡ middle ++ (lines ++ more) → Prints given new
  ended_after printed lines more middle new prints are added whole =
      ended (printed ++ lines) more (middle ++ lines) new prints are (ap (λ (t : List ℕ). t ++ lines) added ∙ append_assoc old printed lines) (whole ∙ sym (append_assoc middle lines more))
