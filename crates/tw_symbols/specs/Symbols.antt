-- The names that a text gives its procedures.
use Rattle.std.specs.Prelude.{◌≡◌, ℕ, List, [], ◌∷◌, ◌++◌, codes, get_or, unwrap_or, if◌then◌else◌, Option, Some, None}
use Rattle.std.specs.List.{flat_map}
use Rattle.std.specs.Str.{bytes_eq}
use Rattle.std.specs.Str.Lines.{lines}
use Rattle.tw_symbols.specs.Lines.{AreTaken, Line, line_words, pieces}
use Rattle.tw_symbols.specs.LineNames.{procedure_name}

-- returns the name in a head, empty if it has none; any other line names no procedure
abbrev pub head_names : List (List ℕ) → List (List ℕ)
head_names [] = []
head_names (first ∷ words) = if bytes_eq first (codes "proc") then unwrap_or (procedure_name (flat_map pieces words)) [] ∷ [] else []

abbrev pub line_names : Line → List (List ℕ)
line_names line = head_names (line_words line)

-- holds if these are the names of a text's procedures, in their order
abbrev pub AreNames : List ℕ → List (List ℕ) → Type 0
AreNames text names = (all : List Line) × AreTaken all (lines text) × (names ≡ flat_map line_names all)

-- holds if these are the names of a program that was read from this text; without a text no name is known
abbrev pub AreSymbols : Option (List ℕ) → List (List ℕ) → Type 0
AreSymbols None names = names ≡ []
AreSymbols (Some text) names = AreNames text names

-- returns the name of the procedure of a number, or an empty one
abbrev pub name_at : List (List ℕ) → ℕ → List ℕ
name_at names number = get_or names number []

-- returns the name in brackets, unless it is empty
abbrev pub bracketed : List ℕ → List ℕ
bracketed [] = []
bracketed (b ∷ name) = codes " (" ++ ((b ∷ name) ++ codes ")")
