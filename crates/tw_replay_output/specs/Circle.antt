-- Details of a run that is stuck in a circle of rules and whose program was read from a text. For each rule of the circle they have the procedure
-- that it runs, and the line of the RULE that made it, as it is written.
use Rattle.std.specs.Prelude.{◌≡◌, ◌⊎◌, ◌++◌, ℕ, List, [], ◌∷◌, codes, decimal, Option, Some, None}
use Rattle.std.specs.FinMap.{get}
use Rattle.tw_types.specs.declared.actor.Actor.{Actor}
use Rattle.tw_types.specs.declared.ending.Ending.{Ending}
use Rattle.tw_types.specs.declared.ending.Ending.TheVariants.{Quiet, Stuck}
use Rattle.tw_types.specs.declared.event.Event.{Event}
use Rattle.tw_types.specs.declared.event.Event.TheVariants.{Call}
use Rattle.tw_types.specs.declared.input.Input.{Input}
use Rattle.tw_types.specs.declared.pending.Link.{Link}
use Rattle.tw_types.specs.Layout.{ActorCounts}
use Rattle.tw_types.specs.Outcome.{Outcome, Went}
use Rattle.tw_code.specs.declared.instr.Action.{Action}
use Rattle.tw_code.specs.declared.instr.Instr.TheVariants.{Rule}
use Rattle.tw_code.specs.declared.procedure.Procedure.{Procedure}
use Rattle.tw_code.specs.machine.Due.{instr_here}
use Rattle.tw_code.specs.machine.Opening.{reached}
use Rattle.tw_code.specs.machine.Pending.{circle}
use Rattle.tw_code.specs.machine.State.{Frame, State}
use Rattle.tw_symbols.specs.Symbols.{AreNames, bracketed, name_at}
use Rattle.tw_source.specs.Text.{IsFromLine, IsLineOf, text_line}

-- ---- who made a rule

-- the program, inputs and layout with which a run is opened
pub record Start : Type 0 where
  pub program : List Procedure
  pub inputs : List Input
  pub layout : ActorCounts

-- returns the outcome of events from there
abbrev pub reached_from : Start → List Event → Outcome State
reached_from start events = reached start.program start.inputs start.layout events

-- an event that executes the RULE at this place of this procedure in this state
pub record DoesRule (program : List Procedure) (s : State) (event : Event) (procedure place : ℕ) (action : Action) : Type 0 where
  pub actor : Actor
  pub is : event ≡ Call actor
  pub frame : Frame
  pub runs : get s.frames actor ≡ Some frame
  pub procedure_is : frame.procedure ≡ procedure
  pub place_is : frame.position.place ≡ place
  pub does : instr_here program frame ≡ Some (Rule action)

-- one of the events, which made the rule with this number so
pub record IsMade (start : Start) (events : List Event) (rule procedure place : ℕ) (action : Action) : Type 0 where
  pub before : List Event
  pub event : Event
  pub after : List Event
  pub parts : events ≡ before ++ (event ∷ after)
  pub at : State
  pub leads : reached_from start before ≡ Went at
  pub number : at.next_rule ≡ rule
  pub does : DoesRule start.program at event procedure place action

-- ---- lines

-- returns a rule, and the procedure that it runs, with its name in brackets if it has one
abbrev pub rule_text : ℕ → ℕ → List ℕ → List ℕ
rule_text rule procedure name = codes "rule " ++ (decimal rule ++ (codes " runs procedure " ++ (decimal procedure ++ (bracketed name ++ codes ", made "))))

abbrev pub rule_line : ℕ → ℕ → List ℕ → ℕ → List ℕ → List ℕ
rule_line rule procedure name number line = rule_text rule procedure name ++ text_line number line

-- holds for the line of a rule that was made by the events, if procedures have these names; another rule has none
abbrev pub PrintsRule : List (List ℕ) → List ℕ → Start → List Event → ℕ → List ℕ → Type 0
PrintsRule names text start events rule more =
    ((procedure place number : ℕ) × (action : Action) × (line : List ℕ) × IsMade start events rule procedure place action
    × IsFromLine text procedure place number × IsLineOf text number line × (more ≡ rule_line rule action.procedure (name_at names action.procedure) number line))
    ⊎ (((procedure place : ℕ) (action : Action) → IsMade start events rule procedure place action → ⊥) × (more ≡ []))

-- holds for the lines of the rules of a circle
abbrev pub PrintRules : List (List ℕ) → List ℕ → Start → List Event → List Link → List ℕ → Type 0
PrintRules names text start events [] more = more ≡ []
PrintRules names text start events (l ∷ links) more =
    (line : List ℕ) × (others : List ℕ) × PrintsRule names text start events l.rule line × PrintRules names text start events links others × (more ≡ line ++ others)

-- holds for the lines of the circle, if there is one, with the names of the text
abbrev pub PrintsCircle : List ℕ → Start → List Event → Option (List Link) → List ℕ → Type 0
PrintsCircle text start events None more = more ≡ []
PrintsCircle text start events (Some links) more = (names : List (List ℕ)) × AreNames text names × PrintRules names text start events links more

-- ---- details of a report

-- holds for the details in the state to which the events lead, by how the run has ended there
abbrev pub AreEndingDetails : List ℕ → Start → List Event → State → Option Ending → List ℕ → Type 0
AreEndingDetails text start events s None more = more ≡ []
AreEndingDetails text start events s (Some Quiet) more = more ≡ []
AreEndingDetails text start events s (Some (Stuck rules)) more = PrintsCircle text start events (circle start.program s) more
