-- The part of a long text that a message shows.
use Rattle.std.specs.Prelude.{ℕ, zero, suc, ◌||◌, Bool, List, [], ◌∷◌, ◌++◌, codes, length, nat_lt, if◌then◌else◌}
use Rattle.tw_lexer.specs.Quoted.{quoted}

-- returns whether the byte begins a character, and isn't a later byte of one
abbrev pub begins_character : ℕ → Bool
begins_character b = nat_lt b 128 || nat_lt 191 b

-- returns the first characters, at most this many, each whole
abbrev pub first_characters : ℕ → List ℕ → List ℕ
first_characters most [] = []
first_characters zero (b ∷ rest) = if begins_character b then [] else b ∷ first_characters zero rest
first_characters (suc more) (b ∷ rest) = b ∷ first_characters (if begins_character b then more else suc more) rest

-- returns the part that a message shows: 200 characters
abbrev pub shown : List ℕ → List ℕ
shown text = first_characters 200 text

-- returns the mark after a text that is cut
abbrev pub cut_mark : List ℕ → List ℕ
cut_mark text = if nat_lt (length (shown text)) (length text) then codes " .." else []

abbrev pub shortened : List ℕ → List ℕ
shortened text = shown text ++ cut_mark text

-- shortens a text and quotes it
abbrev pub shortened_quoted : List ℕ → List ℕ
shortened_quoted text = quoted (shown text) ++ cut_mark text
