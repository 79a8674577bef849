-- The model of what the code keeps of a trace while it replays it, for the lines that made its rules.
use Rattle.std.specs.Prelude.{◌≡◌, ◌+◌, ◌≤◌, ℕ, List, [], Option, Some, None, Result, Ok, Err, length, slice_get}
use Rattle.std.specs.FinMap.{get}
use Rattle.std.specs.Option.{option_and_then}
use Rattle.tw_types.specs.declared.event.Event.{Event}
use Rattle.tw_types.specs.declared.event.Event.TheVariants.{Take, Local, Call, End, Ask, Deliver, Release}
use Rattle.tw_types.specs.Outcome.{Went}
use Rattle.tw_code.specs.declared.instr.Action.{Action}
use Rattle.tw_code.specs.declared.instr.Instr.{Instr}
use Rattle.tw_code.specs.declared.instr.Instr.TheVariants as instr
use Rattle.tw_code.specs.declared.procedure.Procedure.{Procedure}
use Rattle.tw_code.specs.machine.Due.{instr_here}
use Rattle.tw_code.specs.machine.Ending.{ending}
use Rattle.tw_code.specs.machine.Machine.{run}
use Rattle.tw_code.specs.machine.Opening.{opening}
use Rattle.tw_code.specs.machine.State.{Frame, State}
use Rattle.tw_machine.specs.PlainView.{PlainView}
use Rattle.tw_order.specs.declared.runs.Answer.{Answer}
use Rattle.tw_source.specs.Reply.{Reply, reply}
use Rattle.tw_source.specs.Source.{MayBeSource, text_of}
use Rattle.tw_source.specs.WrittenLines.{IsTable}
use Rattle.tw_source.specs.declared.source.SourceText.{SourceText}
use Rattle.tw_replay_output.specs.Circle.{AreEndingDetails, IsMade, Start, reached_from}
use Rattle.tw_replay_output.specs.Replay.{ByOutcome, IsAnswer, IsDetailed, played_from, state_reply}
use Rattle.tw_replay_output.specs.declared.disabled.Unplayed.{Unplayed}
use Rattle.tw_replay_output.specs.declared.replaying.Made.{Made}
use Rattle.tw_replay_output.specs.declared.replaying.Replaying.{Replaying}
use Rattle.tw_replay_output.specs.declared.stuck.Lookup.{Lookup}
use Rattle.tw_symbols.specs.Symbols.{AreNames}

-- ---- rules that were made

-- returns the RULE that is executed, if the instruction is one
abbrev pub rule_by : Frame → Option Instr → Option Made
rule_by f None = None
rule_by f (Some (instr.Local i)) = None
rule_by f (Some (instr.Data i)) = None
rule_by f (Some (instr.Rule action)) = Some (record { procedure = f.procedure; place = f.position.place; runs = action.procedure })
rule_by f (Some (instr.Put action)) = None
rule_by f (Some instr.Ret) = None

abbrev pub rule_in : List Procedure → Option Frame → Option Made
rule_in program frame = option_and_then (λ f. rule_by f (instr_here program f)) frame

abbrev pub rule_done : List Procedure → Event → State → Option Made
rule_done program (Take actor) s = None
rule_done program (Local actor n) s = None
rule_done program (Call actor) s = rule_in program (get s.frames actor)
rule_done program (End actor) s = None
rule_done program (Ask engine rule parameter) s = None
rule_done program (Deliver server datum rule parameter) s = None
rule_done program (Release engine rule) s = None

abbrev pub IsMadeSo : Start → List Event → ℕ → Made → Type 0
IsMadeSo start events rule m = (action : Action) × IsMade start events rule m.procedure m.place action × (action.procedure ≡ m.runs)

abbrev pub IsUnmade : Start → List Event → ℕ → Type 0
IsUnmade start events rule = (procedure place : ℕ) (action : Action) → IsMade start events rule procedure place action → ⊥

-- all rules that the events made, by their numbers from 1 on
pub record AreMade (start : Start) (events : List Event) (made : List Made) : Type 0 where
  pub each : (k : ℕ) (m : Made) → slice_get made k ≡ Some m → IsMadeSo start events (k + 1) m
  pub all : (rule procedure place : ℕ) (action : Action) → IsMade start events rule procedure place action → (1 ≤ rule) × (rule ≤ length made)

-- ---- the lines of rules

-- the lines of this text, by those of its expansion, and the names that it gives its procedures
pub record IsLookup (l : Lookup) (source : SourceText) : Type 0 where
  pub lines_are : IsTable l.lines source.text.now source.plain
  pub names_are : AreNames source.text.now l.names

-- ---- a trace

-- the machine as this opening leaves it
pub record IsOpened (start : Start) (first : PlainView) : Type 0 where
  pub program : first.program ≡ start.program
  pub layout : first.layout ≡ start.layout
  pub state : first.state ≡ opening start.program start.inputs

-- a replay of these events from an opening: its state is that to which they lead, and the rules that they made are known
pub record IsReplayOf (start : Start) (events : List Event) (r : Replaying) : Type 0 where
  pub program : r.plain.program ≡ start.program
  pub layout : r.plain.layout ≡ start.layout
  pub leads : reached_from start events ≡ Went r.plain.state
  pub next : r.plain.state.next_rule ≡ length r.made.items + 1
  pub made : AreMade start events r.made.items

-- a replay of these events from this machine on, all of which succeeded
pub record IsReplayFrom (first : PlainView) (events : List Event) (r : Replaying) : Type 0 where
  pub stays : r.plain ≡ record first { state = r.plain.state }
  pub reaches : run first.program first.layout events first.state ≡ Went r.plain.state
  pub replies : state_reply r.plain.program r.plain.state ≡ played_from first events
  pub replay : (start : Start) → IsOpened start first → IsReplayOf start events r

-- holds if all events were executed; or if one failed, and this is the reply
abbrev pub IsPlayed : PlainView → List Event → Result Replaying Unplayed → Type 0
IsPlayed first events (Ok r) = IsReplayFrom first events r
IsPlayed first events (Err u) = ByOutcome (run first.program first.layout events first.state) (λ s. ⊥) (reply u.reply.text.items u.reply.close ≡ played_from first events)

-- ---- details

-- holds for the details in a state; without a text there are none
abbrev pub AreStateDetails : Option (List ℕ) → Start → List Event → State → List ℕ → Type 0
AreStateDetails None start events s more = more ≡ []
AreStateDetails (Some text) start events s more = AreEndingDetails text start events s (ending s) more

-- holds for an answer to these events, followed by its details, for each start that opens this machine
abbrev pub IsAnswerFrom : Option SourceText → Answer → PlainView → List Event → Reply → Type 0
IsAnswerFrom source answer first events r =
    (start : Start) → IsOpened start first → MayBeSource source start.program → IsDetailed (λ a. IsAnswer answer first events a) (text_of source) answer start events r
