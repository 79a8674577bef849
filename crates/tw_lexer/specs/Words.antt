-- How a line of text is split into words.
use Rattle.std.specs.Prelude.{◌≡◌, ◌≢◌, ◌==◌, ◌||◌, ℕ, Bool, true, false, List, [], ◌∷◌, ◌++◌}
use Rattle.std.specs.List.{AllByRecursion}
use Rattle.tw_lexer.specs.Quoted.{EncodesQuoted}

-- returns whether it separates words: spaces, tabs and carriage returns do
abbrev pub is_parting : ℕ → Bool
is_parting b = (b == 32) || (b == 9) || (b == 13)

-- returns whether it is `;`, which begins a comment outside of quoted texts; the comment ends with the line
abbrev pub is_comment_sign : ℕ → Bool
is_comment_sign b = b == 59

-- returns whether a word ends before this byte
abbrev pub is_edge : ℕ → Bool
is_edge b = is_parting b || is_comment_sign b

-- a word: its bytes, or a quoted text, by its bytes
pub data Word : Type 0 where
  Bare : List ℕ → Word
  Quoted : List ℕ → Word

-- holds if it doesn't begin with a quote, and no word ends inside
abbrev pub IsBare : List ℕ → Type 0
IsBare [] = ⊥
IsBare (b ∷ others) = b ≢ 34 × AllByRecursion (λ c. is_edge c ≡ false) (b ∷ others)

-- holds if these bytes write the word
abbrev pub IsWord : Word → List ℕ → Type 0
IsWord (Bare word) bytes = IsBare word × (bytes ≡ word)
IsWord (Quoted text) bytes = EncodesQuoted text bytes

abbrev pub IsGap : List ℕ → Type 0
IsGap bytes = AllByRecursion (λ b. is_parting b ≡ true) bytes

-- holds if the bytes don't begin with a gap
abbrev pub IsAtWord : List ℕ → Type 0
IsAtWord [] = Unit {0}
IsAtWord (b ∷ rest) = is_parting b ≡ false

-- holds if a word may end here: at the line's end, or before one of these bytes
abbrev pub IsAtEdge : List ℕ → Type 0
IsAtEdge [] = Unit {0}
IsAtEdge (b ∷ rest) = is_edge b ≡ true

-- holds at the line's end, and at a comment
abbrev pub IsAtEnd : List ℕ → Type 0
IsAtEnd [] = Unit {0}
IsAtEnd (b ∷ rest) = is_comment_sign b ≡ true

-- the bytes begin with the word, after a gap or none, and the rest follows it
pub record IsFirstWord (word : Word) (bytes rest : List ℕ) : Type 0 where
  pub gap : List ℕ
  pub text : List ℕ
  pub parts : bytes ≡ gap ++ (text ++ rest)
  pub is_gap : IsGap gap
  pub is_word : IsWord word text
  pub edge : IsAtEdge rest

-- these bytes have no word: only a gap, and a comment or none
pub record IsBlank (bytes : List ℕ) : Type 0 where
  pub gap : List ℕ
  pub rest : List ℕ
  pub parts : bytes ≡ gap ++ rest
  pub is_gap : IsGap gap
  pub is_end : IsAtEnd rest

-- holds if the bytes aren't blank, and don't begin with a word
abbrev pub IsBroken : List ℕ → Type 0
IsBroken bytes = (IsBlank bytes → ⊥) × ((word : Word) (rest : List ℕ) → IsFirstWord word bytes rest → ⊥)

-- holds if the bytes begin with these words, one after the other, and this follows them
abbrev pub AreFirstWords : List Word → List ℕ → List ℕ → Type 0
AreFirstWords [] bytes rest = bytes ≡ rest
AreFirstWords (word ∷ words) bytes rest = (after : List ℕ) × IsFirstWord word bytes after × AreFirstWords words after rest

-- holds if the line has exactly these words
abbrev pub IsLine : List Word → List ℕ → Type 0
IsLine words line = (rest : List ℕ) × AreFirstWords words line rest × IsBlank rest

-- holds if the line has these words before a broken one
abbrev pub IsBrokenLine : List Word → List ℕ → Type 0
IsBrokenLine words line = (rest : List ℕ) × AreFirstWords words line rest × IsBroken rest
