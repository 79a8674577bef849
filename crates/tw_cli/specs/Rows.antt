-- The rows of the command line: each command with its arguments, in the order of its help; and how clap is set up for them.
use Rattle.std.specs.Prelude.{ℕ, Bool, true, false, List, [], ◌∷◌, ◌++◌, ◌==◌, ◌&&◌, Some, codes, fold}
use Rattle.std.specs.List.{list_any}
use Rattle.std.specs.Str.{bytes_eq}
use Rattle.clap.specs.Lexer.{usize_max}
use Rattle.clap.specs.Words.{App, Rule, Text, new_app, new_rule, with_rule, with_subcommand}
use Rattle.clap.specs.declared.builder.action.ArgAction.TheVariants.{SetTrue}
use Rattle.tw_cli.specs.declared.command_rows.ArgumentForm.{ArgumentForm}
use Rattle.tw_cli.specs.declared.command_rows.ArgumentForm.TheVariants.{Flag, Value, ValueOrMain, Inputs, Trace, Position, Positions}

-- an argument: how it is given, and its name
pub record Argument : Type 0 where
  pub form : ArgumentForm
  pub name : Text

-- a command, and whether it reads a program
pub record Command : Type 0 where
  pub name : Text
  pub reads_program : Bool
  pub arguments : List Argument

abbrev pub argument : ArgumentForm → Text → Argument
argument form name = record { form = form; name = name }

abbrev pub flag : Text → Argument
flag name = argument Flag name

abbrev pub value : Text → Argument
value name = argument Value name

abbrev pub command : Text → Bool → List Argument → Command
command name reads arguments = record { name = name; reads_program = reads; arguments = arguments }

-- the options for actors, for the events of a timeline, and for caps
abbrev pub actor_options : List Argument
actor_options = value (codes "engines") ∷ value (codes "servers") ∷ value (codes "workers") ∷ []

abbrev pub range_options : List Argument
range_options = value (codes "from") ∷ value (codes "to") ∷ []

abbrev pub cap_options : List Argument
cap_options =
    value (codes "most-tasks") ∷ value (codes "most-instructions") ∷ value (codes "most-data") ∷ value (codes "most-bytes") ∷ value (codes "most-budget")
    ∷ value (codes "most-members") ∷ []

-- the input arguments, and how a trace's program is read
abbrev pub input_arguments : List Argument
input_arguments = argument Positions (codes "input") ∷ []

abbrev pub trace_options : List Argument
trace_options = flag (codes "text") ∷ argument Trace (codes "events") ∷ argument Inputs (codes "inputs") ∷ actor_options

abbrev pub run_arguments : List Argument
run_arguments =
    flag (codes "text") ∷ argument Inputs (codes "inputs") ∷ argument Inputs (codes "inputs-json") ∷ argument Inputs (codes "each")
    ∷ (actor_options ++ (flag (codes "in-turn") ∷ value (codes "seed") ∷ value (codes "jobs") ∷ value (codes "limit") ∷ value (codes "seconds")
    ∷ (cap_options ++ (flag (codes "order") ∷ flag (codes "trace") ∷ flag (codes "stats") ∷ flag (codes "json") ∷ flag (codes "picture")
    ∷ (range_options ++ (flag (codes "quiet") ∷ input_arguments))))))

abbrev pub check_arguments : List Argument
check_arguments =
    flag (codes "text") ∷ value (codes "limit") ∷ (cap_options ++ (flag (codes "places") ∷ argument ValueOrMain (codes "bounds") ∷ flag (codes "order") ∷ flag (codes "json") ∷ []))

abbrev pub rows : List Command
rows =
    command (codes "asm") true (flag (codes "names") ∷ flag (codes "plain") ∷ flag (codes "json") ∷ [])
    ∷ command (codes "disasm") true (flag (codes "text") ∷ flag (codes "places") ∷ flag (codes "json") ∷ [])
    ∷ command (codes "check") true check_arguments
    ∷ command (codes "run") true run_arguments
    ∷ command (codes "replay") true (trace_options ++ (flag (codes "stats") ∷ flag (codes "json") ∷ input_arguments))
    ∷ command (codes "picture") true (trace_options ++ (range_options ++ input_arguments))
    ∷ command (codes "explain") false (flag (codes "json") ∷ argument Position (codes "number") ∷ []) ∷ []

-- ---- clap

-- return how clap is set up for a flag of this name, for an option, and for an option that has the value `main` if none is given
abbrev pub flag_rule : Text → Rule
flag_rule name = record (new_rule name) { long = Some name; action = Some SetTrue }

abbrev pub option_rule : Text → Rule
option_rule name = record (new_rule name) { long = Some name; value_names = 1 }

abbrev pub main_rule : Text → Rule
main_rule name = record (option_rule name) { range = Some (record { start_inclusive = 0; end_inclusive = 1 }); missing = codes "main" ∷ [] }

-- return how clap is set up for an argument of this name, and for any number of them
abbrev pub position_rule : Text → Rule
position_rule name = record (new_rule name) { value_names = 1 }

abbrev pub several_rule : Text → Rule
several_rule name = record (position_rule name) { range = Some (record { start_inclusive = 0; end_inclusive = usize_max }) }

-- returns how clap is set up for an argument; a session gets no names of files
abbrev pub form_rule : ArgumentForm → Text → Rule
form_rule Flag name = flag_rule name
form_rule Value name = option_rule name
form_rule ValueOrMain name = main_rule name
form_rule Inputs name = flag_rule name
form_rule Trace name = flag_rule name
form_rule Position name = position_rule name
form_rule Positions name = several_rule name

-- the program without its commands: the arguments come without its own name, and must name a command, or request help or the version
abbrev pub bare_line : App
bare_line = record (new_app (codes "tw")) {
  top = record (new_app (codes "tw")).top {
    no_binary_name = true;
    subcommand_required = true;
    has_version = true;
  };
}

-- returns the program with one more command
abbrev pub with_command : App → Command → App
with_command line row = with_subcommand line (fold (λ app a. with_rule app (form_rule a.form a.name)) (new_app row.name) row.arguments).top

-- the whole command line
unfoldable pub command_line : App
command_line = fold with_command bare_line rows

-- ---- which options a value or a file follows

abbrev pub form_number : ArgumentForm → ℕ
form_number Flag = 0
form_number Value = 1
form_number ValueOrMain = 2
form_number Inputs = 3
form_number Trace = 4
form_number Position = 5
form_number Positions = 6

abbrev pub same_form : ArgumentForm → ArgumentForm → Bool
same_form form other = form_number form == form_number other

-- returns whether a word is the option of this name
abbrev pub names_option : List ℕ → List ℕ → Bool
names_option [] name = false
names_option (first ∷ []) name = false
names_option (first ∷ second ∷ others) name = (first == 45 && second == 45) && bytes_eq others name

-- returns whether a word is an option of this form, of any command
abbrev pub is_option : ArgumentForm → List ℕ → Bool
is_option form word = list_any (λ c. list_any (λ a. same_form a.form form && names_option word a.name) c.arguments) rows

-- returns whether a command reads a program
abbrev pub reads_program : List ℕ → Bool
reads_program name = list_any (λ c. c.reads_program && bytes_eq c.name name) rows
