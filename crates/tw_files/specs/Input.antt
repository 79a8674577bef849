-- The input of a session whose arguments name files.
use Rattle.std.specs.Prelude.{◌≡◌, ◌≢◌, ◌⊎◌, ◌==◌, ◌||◌, ◌&&◌, ℕ, Bool, true, false, not, List, [], Option, Some, None, codes, is_some, length, unwrap_or, if◌then◌else◌}
use Rattle.std.specs.List.{list_any}
use Rattle.std.specs.Option.{option_map_or}
use Rattle.std.specs.Str.{bytes_eq}
use Rattle.tw_report.specs.History.{AreParts, lines_in}
use Rattle.tw_files.specs.Format.{may_be_text}
use Rattle.tw_files.specs.Naming.{Naming}
use Rattle.tw_files.specs.declared.opening.Misfit.{Misfit}
use Rattle.tw_files.specs.declared.opening.Misfit.TheVariants.{EventsTwice, InputsTwice, NoEvents}

-- ---- the bytes

-- returns whether a line begins inputs, with a carriage return or without
abbrev pub begins_inputs : List ℕ → Bool
begins_inputs line = bytes_eq line (codes "inputs") || bytes_eq line (codes "inputs\r")

-- returns whether a program's file has inputs, too
abbrev pub has_inputs : List ℕ → Bool
has_inputs program = list_any begins_inputs (lines_in program)

-- returns whether a command reads a trace after the program
abbrev pub reads_trace : List ℕ → Bool
reads_trace command = bytes_eq command (codes "replay") || bytes_eq command (codes "picture")

-- returns whether a program's file has no trace for a command, by the part of it before the trace
abbrev pub is_untraced : List ℕ → List ℕ → List ℕ → Bool
is_untraced command program before = not (reads_trace command) || length before == length program

-- ---- the arguments

abbrev pub has_word : List ℕ → List (List ℕ) → Bool
has_word word words = list_any (λ other. bytes_eq other word) words

-- returns whether help is requested
abbrev pub requests_help : List (List ℕ) → Bool
requests_help words = has_word (codes "--help") words || has_word (codes "-h") words

-- ---- files of their own

abbrev pub standard_input : List ℕ
standard_input = codes "-"

-- returns the file of the program
abbrev pub program_path : Naming → List ℕ
program_path n = unwrap_or n.program standard_input

-- returns a file, unless it is standard input, and something else is there too
abbrev pub file_beside : Bool → Option (List ℕ) → Option (List ℕ)
file_beside taken None = None
file_beside taken (Some path) = if bytes_eq path standard_input && taken then None else Some path

-- returns whether standard input has the program
abbrev pub takes_program : Naming → Bool
takes_program n = bytes_eq (program_path n) standard_input

-- returns whether standard input has the program or the inputs
abbrev pub takes_input : Naming → Bool
takes_input n = takes_program n || option_map_or (λ path. bytes_eq path standard_input) n.inputs false

-- returns the file of inputs, unless they follow the program
abbrev pub separate_inputs : Naming → Option (List ℕ)
separate_inputs n = file_beside (takes_program n) n.inputs

-- returns whether the inputs are lines of `--each`
abbrev pub has_lines : Naming → Bool
has_lines n = has_word (codes "--each") n.others

-- return the file of inputs if a session reads it with the program, and if it reads it line by line
abbrev pub joined_inputs : Naming → Option (List ℕ)
joined_inputs n = if has_lines n then None else separate_inputs n

abbrev pub separate_lines : Naming → Option (List ℕ)
separate_lines n = if has_lines n then separate_inputs n else None

-- returns whether a trace is expected in standard input, if the program's file has none and none is named
abbrev pub expects_trace : List ℕ → Naming → Bool
expects_trace command n = bytes_eq command (codes "replay") || has_word (codes "--events") n.others

-- returns the name of the trace's file, by whether the program's file has no trace
abbrev pub events_name : List ℕ → Bool → Naming → Option (List ℕ)
events_name command untraced n =
    if not (reads_trace command) then None else
    if is_some n.events then n.events else
    if untraced && expects_trace command n then Some standard_input else None

-- returns the file of the trace, unless it follows the program or the inputs
abbrev pub separate_events : List ℕ → Bool → Naming → Option (List ℕ)
separate_events command untraced n = file_beside (takes_input n) (events_name command untraced n)

-- returns whether a run is drawn in place of a trace, which is neither in the program's file nor in one of its own
abbrev pub draws_run : List ℕ → Bool → Naming → Bool
draws_run command untraced n =
    is_some n.program && (bytes_eq command (codes "picture") && (untraced && not (is_some (separate_events command untraced n))))

-- returns whether the trace follows the inputs in their file
abbrev pub follows_inputs : List ℕ → Bool → Naming → Bool
follows_inputs command untraced n =
    is_some (joined_inputs n) && (is_some (events_name command untraced n) && not (is_some (separate_events command untraced n)))

-- returns whether any file is to be opened; for help, none is
abbrev pub opens_files : List ℕ → Naming → Bool
opens_files command n = (is_some n.program || (is_some (separate_inputs n) || is_some (separate_events command false n))) && not (requests_help n.others)

-- ---- what a session gets

-- the contents of files: a program, and the inputs and the events of a trace if they have files of their own; whether the trace follows the
-- inputs in theirs
pub record Contents : Type 0 where
  pub program : List ℕ
  pub inputs : Option (List ℕ)
  pub trace : Option (List ℕ)
  pub follows : Bool

-- holds for the content of a file, if one is named
abbrev pub AreHeld : (List ℕ → List ℕ → Type 0) → Option (List ℕ) → Option (List ℕ) → Type 0
AreHeld Holds None bytes = bytes ≡ None
AreHeld Holds (Some path) None = ⊥
AreHeld Holds (Some path) (Some bytes) = Holds path bytes

-- holds for what the lines after a line `events` are, if a file has one; an empty file has none, and no events
abbrev pub HasEvents : List ℕ → List ℕ → Type 0
HasEvents trace events = (before : List ℕ) × AreParts trace before events × ((length before ≡ length trace → ⊥) ⊎ (trace ≡ []))

-- holds for a file that isn't empty and has no line `events`
abbrev pub HasNoEvents : List ℕ → Type 0
HasNoEvents trace = (after : List ℕ) × (before : List ℕ) × AreParts trace before after × (length before ≡ length trace) × (trace ≢ [])

-- holds for the events in a trace's file, if one is named
abbrev pub IsTraceHeld : (List ℕ → List ℕ → Type 0) → Option (List ℕ) → Option (List ℕ) → Type 0
IsTraceHeld Holds None events = events ≡ None
IsTraceHeld Holds (Some path) None = ⊥
IsTraceHeld Holds (Some path) (Some events) = (trace : List ℕ) × Holds path trace × HasEvents trace events

-- holds if inputs are in a file of their own, and the program's file has some, too
abbrev pub HasInputsTwice : Naming → List ℕ → Type 0
HasInputsTwice n program = (is_some (separate_inputs n) ≡ true) × (has_inputs program ≡ true)

-- holds if a trace is in a file of its own, and the program's file has one, too
abbrev pub HasEventsTwice : List ℕ → Bool → Naming → Type 0
HasEventsTwice command untraced n = (is_some (separate_events command untraced n) ≡ true) × (untraced ≡ false)

-- holds if the program's file doesn't fit another, for this reason
abbrev pub IsTwice : List ℕ → Bool → Naming → List ℕ → Misfit → Type 0
IsTwice command untraced n program InputsTwice = HasInputsTwice n program
IsTwice command untraced n program EventsTwice = HasEventsTwice command untraced n
IsTwice command untraced n program NoEvents = ⊥

-- holds if the trace's file isn't empty and has no line `events`
abbrev pub IsTraceless : (List ℕ → List ℕ → Type 0) → Option (List ℕ) → Misfit → Type 0
IsTraceless Holds trace InputsTwice = ⊥
IsTraceless Holds trace EventsTwice = ⊥
IsTraceless Holds trace NoEvents = (path : List ℕ) × (bytes : List ℕ) × (trace ≡ Some path) × Holds path bytes × HasNoEvents bytes

-- holds for what a session is given, by the program and whether its file has no trace; `text` and `drawn` are whether the program is assembly text by
-- its file, and whether a run is drawn
abbrev pub IsRead : (List ℕ → List ℕ → Type 0) → List ℕ → Bool → Naming → List ℕ → Bool → Bool → Option Contents → Type 0
IsRead Holds command untraced n program text drawn None = ⊥
IsRead Holds command untraced n program text drawn (Some contents) =
    (text ≡ may_be_text n.program program) × (drawn ≡ draws_run command untraced n)
    × (contents.program ≡ program) × AreHeld Holds (joined_inputs n) contents.inputs × IsTraceHeld Holds (separate_events command untraced n) contents.trace
    × (contents.follows ≡ follows_inputs command untraced n)

-- holds for a program in its file, and whether that has no trace for the command
abbrev pub IsProgram : (List ℕ → List ℕ → Type 0) → List ℕ → Naming → List ℕ → Bool → Type 0
IsProgram Holds command n program untraced =
    Holds (program_path n) program × ((before after : List ℕ) × AreParts program before after × (untraced ≡ is_untraced command program before))

-- Holds for what a session gets, by what the arguments after the command name: what its files hold, if it doesn't read standard input. `Holds` says
-- what is in a file.
abbrev pub IsSessionInput : (List ℕ → List ℕ → Type 0) → List ℕ → Naming → Bool → Bool → Option Contents → Type 0
IsSessionInput Holds command n text drawn None = (opens_files command n ≡ Bool.false) × (text ≡ Bool.false) × (drawn ≡ Bool.false)
IsSessionInput Holds command n text drawn (Some contents) =
    (opens_files command n ≡ Bool.true)
    × ((program : List ℕ) × (untraced : Bool) × IsProgram Holds command n program untraced
    × (HasInputsTwice n program → ⊥) × (HasEventsTwice command untraced n → ⊥) × IsRead Holds command untraced n program text drawn (Some contents))

-- holds if the files that the arguments name don't fit each other, for this reason
abbrev pub AreMisfits : (List ℕ → List ℕ → Type 0) → List ℕ → Naming → Misfit → Type 0
AreMisfits Holds command n why =
    (program : List ℕ) × (untraced : Bool) × IsProgram Holds command n program untraced
    × (IsTwice command untraced n program why ⊎ IsTraceless Holds (separate_events command untraced n) why)
