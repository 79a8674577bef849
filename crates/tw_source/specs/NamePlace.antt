-- The place of a name in a line of a text.
use Rattle.std.specs.Prelude.{◌≡◌, ◌⊎◌, ◌==◌, ◌<◌, ◌≤◌, ◌+◌, ◌-◌, ◌&&◌, ◌||◌, ℕ, Bool, false, true, List, Option, None, Some, count_by, drop, get_or, if◌then◌else◌, length, nat_eq, nat_le, slice_get, take}
use Rattle.std.specs.List.{before_first, list_any, starts_with}
use Rattle.std.specs.Str.Lines.{lines}
use Rattle.tw_lexer.specs.Shown.{begins_character}
use Rattle.tw_lexer.specs.Words.{AreFirstWords, IsFirstWord, Word, is_parting}
use Rattle.tw_symbols.specs.Lines.{is_sign}

-- ---- where a name is

-- returns whether the byte separates names: white space, a bracket or a comma
abbrev pub parts_names : ℕ → Bool
parts_names b = is_parting b || is_sign b

-- returns whether a name may end before the byte
abbrev pub ends_name : ℕ → Bool
ends_name b = parts_names b || (b == 58) || (b == 59)

-- returns whether a name may begin at this index of a line
abbrev pub begins_at : List ℕ → ℕ → Bool
begins_at line index = (index == 0) || parts_names (get_or line (index - 1) 0)

-- returns whether a name may end before this index of a line
abbrev pub ends_at : List ℕ → ℕ → Bool
ends_at line index = nat_le (length line) index || ends_name (get_or line index 0)

-- returns whether the word is at this index of a line, and not as a part of a longer one
abbrev pub is_at : List ℕ → List ℕ → ℕ → Bool
is_at line word index = begins_at line index && starts_with nat_eq (drop index line) word && ends_at line (index + length word)

-- holds if the word is at this index, and nowhere else in the line; and nothing in it separates names
pub record IsOnly (line word : List ℕ) (index : ℕ) : Type 0 where
  pub whole : list_any parts_names word ≡ false
  pub inside : index < length line
  pub here : is_at line word index ≡ true
  pub nowhere_else : (other : ℕ) → other < length line → is_at line word other ≡ true → other ≡ index

-- returns the line without its comment, if it has no quote; a `;` may be quoted
abbrev pub without_comment : List ℕ → List ℕ
without_comment line = if list_any (λ b. b == 34) line then line else before_first (λ b. b == 59) line

-- ---- its word and its column

-- returns the column after these bytes, counted in characters from 1
abbrev pub column_after : List ℕ → ℕ
column_after front = count_by begins_character front + 1

-- holds if the word of this number, from 1, is the first one that doesn't end before this index or at it
pub record IsWordAt (line : List ℕ) (index number : ℕ) : Type 0 where
  pub before : List Word
  pub after : List ℕ
  pub words : AreFirstWords before line after
  pub count : number ≡ length before + 1
  pub ended : length line ≤ index + length after
  pub next : (word : Word) (rest : List ℕ) → IsFirstWord word after rest → index + length rest < length line

-- holds if these are the number of the word in which the name is, and the name's column, both from 1; or zeros, if the code doesn't have just one such name
abbrev pub IsPlaceIn : List ℕ → List ℕ → List ℕ → (ℕ × ℕ) → Type 0
IsPlaceIn line code name at =
    ((index : ℕ) × IsOnly code name index × IsWordAt line index at.0 × (at.1 ≡ column_after (take index code)))
    ⊎ (((index : ℕ) → IsOnly code name index → ⊥) × (at ≡ (0, 0)))

abbrev pub IsPlaceInSome : Option (List ℕ) → List ℕ → (ℕ × ℕ) → Type 0
IsPlaceInSome None name at = at ≡ (0, 0)
IsPlaceInSome (Some line) name at = IsPlaceIn line (without_comment line) name at

-- holds if this is the place in the text's line of this number
abbrev pub IsNamePlace : List ℕ → ℕ → List ℕ → (ℕ × ℕ) → Type 0
IsNamePlace text number name at = IsPlaceInSome (slice_get (lines text) (number - 1)) name at
