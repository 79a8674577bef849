-- Which arguments of a command name files.
use Rattle.std.specs.Prelude.{◌==◌, ◌++◌, ◌||◌, ◌&&◌, ℕ, Bool, false, not, List, [], ◌∷◌, Option, Some, None, codes, is_some, if◌then◌else◌, nat_eq}
use Rattle.std.specs.List.{starts_with}
use Rattle.std.specs.Str.{bytes_eq}
use Rattle.tw_cli.specs.Rows.{is_option}
use Rattle.tw_cli.specs.declared.command_rows.ArgumentForm.TheVariants.{Value, ValueOrMain, Trace}
use Rattle.tw_cli.specs.declared.command_rows.ArgumentForm.TheVariants as form
use Rattle.tw_files.specs.declared.naming.Role.{Role}
use Rattle.tw_files.specs.declared.naming.Role.TheVariants.{Program, Inputs, Events, Other}

-- returns whether an argument begins like an input
abbrev pub is_input : List ℕ → Bool
is_input word =
    starts_with nat_eq word (codes "int:") || starts_with nat_eq word (codes "ints:") || starts_with nat_eq word (codes "text:")
    || starts_with nat_eq word (codes "texts:") || starts_with nat_eq word (codes "tints:") || starts_with nat_eq word (codes "ttexts:")

-- returns whether an argument may name a file: `-` does; no other option, and no input
abbrev pub may_name : List ℕ → Bool
may_name [] = false
may_name (first ∷ others) = if first == 45 then bytes_eq others [] else not (is_input (first ∷ others))

-- returns whether an argument is the value of the option before it
abbrev pub is_value : List ℕ → List ℕ → Bool
is_value option word = is_option Value option || (is_option ValueOrMain option && (bytes_eq word (codes "main") || bytes_eq word (codes "all")))

-- the arguments after a command, as far as they were read: the last one, those that name no file, and the files of the program, the inputs and the
-- trace
pub record Naming : Type 0 where
  pub before : List ℕ
  pub others : List (List ℕ)
  pub program : Option (List ℕ)
  pub inputs : Option (List ℕ)
  pub events : Option (List ℕ)

abbrev pub naming : List ℕ → List (List ℕ) → Option (List ℕ) → Option (List ℕ) → Option (List ℕ) → Naming
naming before others program inputs events = record { before = before; others = others; program = program; inputs = inputs; events = events }

-- returns what the next argument is. After an option of the form `Inputs` the first one names the file of inputs, after one of the form `Trace` that
-- of the trace. The first other one that may name a file names the program's.
abbrev pub role : Naming → List ℕ → Role
role n word =
    if may_name word then
    if is_option form.Inputs n.before && not (is_some n.inputs) then Inputs else
    if is_option Trace n.before && not (is_some n.events) then Events else
    if is_some n.program || is_value n.before word then Other else Program
    else Other

abbrev pub after_role : Role → Naming → List ℕ → Naming
after_role Program n word = naming word n.others (Some word) n.inputs n.events
after_role Inputs n word = naming word n.others n.program (Some word) n.events
after_role Events n word = naming word n.others n.program n.inputs (Some word)
after_role Other n word = naming word (n.others ++ word ∷ []) n.program n.inputs n.events

abbrev pub after_word : Naming → List ℕ → Naming
after_word n word = after_role (role n word) n word

abbrev pub after_words : Naming → List (List ℕ) → Naming
after_words n [] = n
after_words n (word ∷ words) = after_words (after_word n word) words

-- returns what the arguments after a command name
abbrev pub naming_of : List (List ℕ) → Naming
naming_of words = after_words (naming [] [] None None None) words
