-- The codes of errors and traps, which `explain` explains.
use Rattle.std.specs.Prelude.{◌≡◌, ◌++◌, ◌==◌, ◌&&◌, ◌||◌, not, ℕ, Bool, true, false, List, [], ◌∷◌, codes, drop, if◌then◌else◌, length, map, nat_eq, take, unwrap_or}
use Rattle.std.specs.List.{list_any, starts_with}
use Rattle.std.specs.Char.{to_ascii_uppercase}
use Rattle.std.specs.Str.{bytes_eq}
use Rattle.clap.specs.Words.{Row, Text, first_of}

-- ---- all codes, as errors and traps name them

-- the codes of input, openings, traces and runs
abbrev pub session_numbers : List Text
session_numbers =
    codes "H01" ∷ codes "H02" ∷ codes "H03" ∷ codes "O01" ∷ codes "O02" ∷ codes "O03" ∷ codes "O04" ∷ codes "O05" ∷
    codes "O06" ∷ codes "O07" ∷ codes "E01" ∷ codes "X01" ∷ []

-- the codes of assembly text
abbrev pub assembly_numbers : List Text
assembly_numbers =
    codes "A01" ∷ codes "A02" ∷ codes "A03" ∷ codes "A04" ∷ codes "A05" ∷ codes "A06" ∷ codes "A07" ∷ []

-- the codes of symbolic assembly
abbrev pub name_numbers : List Text
name_numbers =
    codes "N01" ∷ codes "N02" ∷ codes "N03" ∷ codes "N04" ∷ codes "N05" ∷ codes "N06" ∷ codes "N07" ∷ codes "N08" ∷ []

-- the codes of a program's bytes
abbrev pub byte_numbers : List Text
byte_numbers =
    codes "F01" ∷ codes "F02" ∷ codes "F03" ∷ codes "F04" ∷ codes "F05" ∷ codes "F06" ∷ codes "F07" ∷ codes "F08" ∷
    codes "F09" ∷ []

-- the codes of the verifier
abbrev pub verifier_numbers : List Text
verifier_numbers =
    codes "V01" ∷ codes "V02" ∷ codes "V03" ∷ codes "V04" ∷ codes "V05" ∷ codes "V06" ∷ codes "V07" ∷ codes "V08" ∷
    codes "V09" ∷ codes "V10" ∷ codes "V11" ∷ codes "V12" ∷ codes "V13" ∷ codes "V14" ∷ codes "V15" ∷ codes "V16" ∷
    codes "V17" ∷ codes "V18" ∷ []

-- the codes of traps
abbrev pub trap_numbers : List Text
trap_numbers =
    codes "C1" ∷ codes "C2" ∷ codes "C3" ∷ codes "C4" ∷ codes "C5" ∷ codes "C6" ∷ codes "C7" ∷ codes "C8" ∷
    codes "C9" ∷ codes "C10" ∷ codes "C11" ∷ codes "C12" ∷ codes "C13" ∷ codes "C14" ∷ codes "C15" ∷ []

abbrev pub is_among : List Text → Text → Bool
is_among numbers word = list_any (λ number. bytes_eq number word) numbers

abbrev pub is_number : Text → Bool
is_number word = is_among session_numbers word || (is_among assembly_numbers word || (is_among name_numbers word || (is_among byte_numbers word || (is_among verifier_numbers word || is_among trap_numbers word))))

-- ---- how a code may be written

-- inserts a 0 between a letter and a single digit, except in the code of a trap
abbrev pub full_number : Text → Text
full_number word = if (length word == 2) && not (starts_with nat_eq word (codes "C")) then take 1 word ++ (codes "0" ++ drop 1 word) else word

-- returns the code that an argument names, in letters of either case
abbrev pub meant : Text → Text
meant word = full_number (map to_ascii_uppercase word)

-- ---- what is written

-- holds if the text is an explanation of the code: it begins with the code, and more follows
abbrev pub IsExplanation : Text → List ℕ → Type 0
IsExplanation number text = (more : List ℕ) × (text ≡ number ++ (codes ": " ++ more))

-- holds for the code and the text that an argument requests: any text and no code for an empty argument, which requests the list of all codes, and
-- else its code with the explanation
abbrev pub IsExplainedBy : Bool → Text → Text → List ℕ → Type 0
IsExplainedBy true word code text = code ≡ []
IsExplainedBy false word code text = (code ≡ meant word) × IsExplanation (meant word) text

abbrev pub IsMeaningOf : Text → Text → List ℕ → Type 0
IsMeaningOf word code text = IsExplainedBy (length word == 0) word code text

-- returns the argument after `explain`, or an empty one
abbrev pub number_word : List Row → Text
number_word rows = unwrap_or (first_of (codes "number") rows) []

-- returns whether an argument names a code, or is empty
abbrev pub names_code : Text → Bool
names_code word = length word == 0 || is_number (meant word)
