-- Names: a letter followed by letters, digits or `_`. Also names before a `:`.
use Rattle.std.specs.Prelude.{ℕ, Bool, true, false, ◌&&◌, ◌||◌, ◌==◌, List, [], ◌∷◌, Option, Some, None, if◌then◌else◌}
use Rattle.tw_lexer.specs.Digits.{is_within}

abbrev pub is_letter : ℕ → Bool
is_letter b = is_within 65 90 b || is_within 97 122 b

abbrev pub is_in_name : ℕ → Bool
is_in_name b = is_letter b || (is_within 48 57 b || (b == 95))

abbrev pub all_in_name : List ℕ → Bool
all_in_name [] = true
all_in_name (b ∷ others) = is_in_name b && all_in_name others

abbrev pub is_name : List ℕ → Bool
is_name [] = false
is_name (b ∷ others) = is_letter b && all_in_name others

-- returns the text without the `:` at its end, if it has one
abbrev pub before_colon : List ℕ → Option (List ℕ)
before_colon [] = None
before_colon (b ∷ []) = if b == 58 then Some [] else None
before_colon (b ∷ c ∷ rest) = more_before b (before_colon (c ∷ rest))
  where
    more_before : ℕ → Option (List ℕ) → Option (List ℕ)
    more_before b None = None
    more_before b (Some name) = Some (b ∷ name)
