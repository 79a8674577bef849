-- The canonical text of a program.
use Rattle.std.specs.Prelude.{ℕ, ◌+◌, ◌==◌, not, nat_lt, List, [], ◌∷◌, ◌++◌, codes, filter, length, Option, Some, None}
use Rattle.std.specs.Fmt.{decimal}
use Rattle.std.specs.List.{flat_map, position}
use Rattle.tw_code.specs.declared.instr.Instr.{Instr}
use Rattle.tw_code.specs.declared.procedure.Procedure.{Procedure}
use Rattle.tw_code.specs.declared.version.Version.{Version}
use Rattle.tw_code.specs.declared.version.Version.TheVariants.{One}
use Rattle.tw_code.specs.format.Versions.{version_number}
use Rattle.tw_code.specs.format.Program.{Versioned}
use Rattle.tw_asm.specs.Parts.{skip_of}
use Rattle.tw_asm.specs.Statement.{OfVersion, Head, Registers, Label, Code}
use Rattle.tw_asm.specs.Written.{goal_word, line_of}

-- ---- goals

-- returns the place to which an instruction at this place may skip
abbrev pub goal_from : ℕ → Option ℕ → List ℕ
goal_from place None = []
goal_from place (Some skip) = (place + 1 + skip) ∷ []

-- returns the goals of the instructions from a place on, in their order
abbrev pub goals_from : ℕ → List Instr → List ℕ
goals_from place [] = []
goals_from place (i ∷ others) = goal_from place (skip_of i) ++ goals_from (place + 1) others

-- returns each item once, in the order of the first occurrences
abbrev pub first_ones : List ℕ → List ℕ
first_ones [] = []
first_ones (x ∷ xs) = x ∷ filter (λ y. not (y == x)) (first_ones xs)

-- Returns the places of the labels, in the order in which they are first named. A goal past the code's length has no label.
abbrev pub label_places : List Instr → List ℕ
label_places code = first_ones (filter (λ goal. not (nat_lt (length code) goal)) (goals_from 0 code))

-- returns the number of the label at a place, if there is one
abbrev pub label_at : List ℕ → ℕ → Option ℕ
label_at places place = position (λ p. p == place) places

-- ---- lines

abbrev pub label_line : Option ℕ → List ℕ
label_line None = []
label_line (Some number) = line_of (goal_word None) (Label (codes "L" ++ decimal number))

-- returns the lines of the instructions from a place on, with the labels between and after them
abbrev pub code_lines : List ℕ → ℕ → List Instr → List ℕ
code_lines labels place [] = label_line (label_at labels place)
code_lines labels place (i ∷ others) =
    label_line (label_at labels place)
    ++ (line_of (λ skip. goal_word (label_at labels (place + 1 + skip)) skip) (Code i) ++ code_lines labels (place + 1) others)

abbrev pub procedure_lines : Procedure → List ℕ
procedure_lines p =
    line_of (goal_word None) (Head p.kind p.params) ++ (line_of (goal_word None) (Registers p.registers) ++ code_lines (label_places p.code) 0 p.code)

-- returns the line of the version; the first version has none
abbrev pub version_line : Version → List ℕ
version_line One = []
version_line version = line_of (goal_word None) (OfVersion (version_number version))

abbrev pub disassembly : Versioned → List ℕ
disassembly program = version_line program.version ++ flat_map procedure_lines program.procedures
