-- The results of the parts of a session, up to a run.
use Rattle.std.specs.Prelude.{◌≡◌, ◌≤◌}
use Rattle.tw_session.specs.Names.{ℕ, Bool, List, MatchResult, Result, Option, length, Text, Versioned, AreEncoded, IsRejectedWord, RejectedWord, AreInputsIn, HasFaultAt, Place, lines_in, PrintsInputWord, Reply, reply, RepliesByCheck, IsDisassembled, RepliesByLines, RepliesByEach}
use Rattle.tw_types.specs.declared.param.Param.{Param}
use Rattle.tw_in_turn.specs.Stopping.{IsLeftIf}
use Rattle.tw_in_turn.specs.declared.run.EndedRun.{EndedRun}
use Rattle.tw_pool.specs.Openings.{IsRejection, MayOpen, opened}
use Rattle.tw_pool.specs.declared.open.OpenError.{OpenError}
use Rattle.tw_source.specs.Source.{MayBeSource, text_of}
use Rattle.tw_session.specs.Run.{RepliesByOpening}
use Rattle.tw_session.specs.Session.{PrintsFault, RepliesByJsonRun, RepliesIfRun, run_with}
use Rattle.tw_session.specs.declared.action.Action.{Action}
use Rattle.tw_session.specs.declared.action.Action.TheVariants.{Check, Disassemble, Replay, Run, RunWithJson}
use Rattle.tw_session.specs.declared.action.GivenInputs.{GivenInputs}
use Rattle.tw_session.specs.declared.action.GivenInputs.TheVariants as given
use Rattle.tw_session.specs.declared.programs.Prepared.{Prepared}
use Rattle.tw_session.specs.declared.programs.Prepared.TheVariants as left
use Rattle.tw_session.specs.declared.programs.RunRequest.{RunRequest}

-- ---- a program to be read

-- hold for the inputs that a JSON text has for these parameters, or that words encode; or for the reply with their fault
abbrev pub AreGiven : List Param → List ℕ → GivenInputs → Type 0
AreGiven params json (given.Inputs inputs) = AreInputsIn params json inputs
AreGiven params json (given.Fault r) = (place : Place) × HasFaultAt params json place × PrintsFault place (reply r.text.items r.close)

abbrev pub AreEncodedWords : List Text → GivenInputs → Type 0
AreEncodedWords words (given.Inputs inputs) = AreEncoded inputs words
AreEncodedWords words (given.Fault r) = (refused : RejectedWord) × IsRejectedWord words refused × PrintsInputWord refused (reply r.text.items r.close)

-- holds for the reply to a program on which the action is done
abbrev pub RepliesByAction : Option (List ℕ) → Action → Versioned → Reply → Type 0
RepliesByAction text (Disassemble order) program r = IsDisassembled order.places program r
RepliesByAction text (Check order) program r = RepliesByCheck order text program.procedures r
RepliesByAction text (Run options inputs) program r = RepliesIfRun text (run_with options inputs) program r
RepliesByAction text (RunWithJson options json) program r = RepliesByJsonRun text options json.now program r
RepliesByAction text (Replay order trace) program r = RepliesByLines text order (lines_in trace.now) program r

-- holds if a trace has at most as many bytes as a session reads
abbrev pub HasShortTrace : Action → Type 0
HasShortTrace (Replay order trace) = length trace.now ≤ 16777216
HasShortTrace action = Unit {0}

-- ---- a run

-- holds for the reply of some run that is requested
abbrev pub RepliesToRun : RunRequest → Reply → Type 0
RepliesToRun run r = RepliesByOpening (text_of run.source) run.verified.program run.order r

-- holds for what a run in one thread leaves, which was stopped only if that may be, or for why it isn't opened
abbrev pub IsRunMade : Bool → RunRequest → Result EndedRun OpenError → Type 0
IsRunMade may_stop run result =
    MatchResult result (λ left. MayOpen run.verified.program run.order.inputs run.order.options.layout run.order.options.limit
    × IsLeftIf may_stop run.order.options.seed (opened run.verified run.order.inputs run.order.options.layout run.order.options.limit) left)
    (IsRejection run.verified.program run.order.inputs run.order.options.layout run.order.options.limit)

-- ---- an order

-- holds for this reply, after which nothing is left to do
abbrev pub IsFinishedBy : Reply → Prepared → Type 0
IsFinishedBy is (left.Finished r) = reply r.text.items r.close ≡ is
IsFinishedBy is prepared = ⊥

-- holds for a reply that satisfies `Answers`; or for a run, or for runs on lines, if all their replies satisfy `Answers`
abbrev pub Awaits : (Reply → Type 0) → Prepared → Type 0
Awaits Answers (left.Finished r) = Answers (reply r.text.items r.close)
Awaits Answers (left.Run run) = MayBeSource run.source run.verified.program × ((r : Reply) → RepliesToRun run r → Answers r)
Awaits Answers (left.Lines source order input) = (r : Reply) → RepliesByEach source order input.now r → Answers r
