-- The line of an instruction's place.
use Rattle.std.specs.Prelude.{◌≡◌, ◌++◌, ℕ, List, codes, decimal, Option}
use Rattle.tw_source.specs.Text.{IsPlaceText}

-- returns a line with a place, between these texts
abbrev pub placed_line : List ℕ → ℕ → ℕ → List ℕ → List ℕ
placed_line head procedure place tail = head ++ (decimal procedure ++ (codes " at place " ++ (decimal place ++ tail)))

-- holds for this line, followed by the place's line of the text
abbrev pub IsPlaced : Option (List ℕ) → List ℕ → ℕ → ℕ → List ℕ → Type 0
IsPlaced source line procedure place text = (more : List ℕ) × IsPlaceText source procedure place more × (text ≡ line ++ more)
