-- A line, word by word.
use Rattle.std.specs.Prelude.{◌≡◌, ℕ, suc, false, List, [], ◌∷◌, if◌then◌else◌}
use Rattle.tw_lexer.specs.Words.{is_parting}

-- prepends this word, unless it is empty
abbrev pub with_word : List ℕ → List (List ℕ) → List (List ℕ)
with_word [] words = []
with_word (b ∷ bytes) words = (b ∷ bytes) ∷ words

-- holds if the bytes don't begin with a gap
abbrev pub IsAtWord : List ℕ → Type 0
IsAtWord [] = Unit {0}
IsAtWord (b ∷ rest) = is_parting b ≡ false

-- counts the bytes before the first gap
abbrev pub word_length : List ℕ → ℕ
word_length [] = 0
word_length (b ∷ rest) = if is_parting b then 0 else suc (word_length rest)
