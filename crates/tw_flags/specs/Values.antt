-- The values of a flag: whether it was raised after each setting and at each look, the first one first.
use Rattle.std.specs.Prelude.{◌≡◌, ℕ, if◌then◌else◌, Bool, true, false, List, [], ◌∷◌, ◌++◌, None, unwrap_or}
use Rattle.std.specs.List.{last_or}
use Rattle.logbook.specs.Pages.{Book, Cell, Named, Step, View}

-- a flag is raised exactly if its last value says so; a new one isn't
abbrev pub is_raised : List Bool → Bool
is_raised values = unwrap_or (last_or None values) false

-- returns the word of such a flag
abbrev pub word_of : List Bool → ℕ
word_of values = if is_raised values then 1 else 0

-- the first word of a flag's book is that of its values; a book has a second word, which stays 0
abbrev pub IsKept : List Cell → List Bool → Type 0
IsKept cells values = cells ≡ (word_of values, true) ∷ (0, true) ∷ []

-- returns the first word of a book
abbrev pub word_in : Book → Named
word_in book = record { tracked = true; key = 0; book = book }

-- a look finds the word of the values so far, with those of others, and adds the last of them again
abbrev pub Looks : Step Bool → View Bool Bool → ℕ → View Bool Bool → Type 0
Looks s before found after =
    (others : List Bool) × (after.0 ≡ before.0 ++ others ++ is_raised (before.0 ++ others) ∷ []) × (found ≡ word_of (before.0 ++ others))

-- a step makes the setting, whose value the holder has then seen, with those of others before it
abbrev pub Sets : Step Bool → View Bool Bool → ℕ → View Bool Bool → Type 0
Sets s before found after = (others : List Bool) × (after.0 ≡ before.0 ++ others ++ s.ask ∷ [])
