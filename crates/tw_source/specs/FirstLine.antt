-- The first line of what is read.
use Rattle.std.specs.Prelude.{◌≡◌, ◌++◌, ℕ, List, [], ◌∷◌, Option, Some, None}
use Rattle.tw_source.specs.Inputs.{lines_in}

-- holds for the first line, and what follows its line feed, if it has one
abbrev pub IsFirstLine : List ℕ → List ℕ → Option (List ℕ) → Type 0
IsFirstLine text line None = (lines_in text ≡ line ∷ []) × (text ≡ line)
IsFirstLine text line (Some rest) = (lines_in text ≡ line ∷ lines_in rest) × (text ≡ line ++ 10 ∷ rest)
