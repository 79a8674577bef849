-- The words of a line, unchanged.
use Rattle.std.specs.Prelude.{◌≡◌, ◌==◌, ◌||◌, ℕ, Bool, false, List, [], ◌∷◌, ◌++◌, codes, if◌then◌else◌}
use Rattle.std.specs.List.{list_any}
use Rattle.std.specs.Str.{bytes_eq}
use Rattle.tw_lexer.specs.Words.{IsAtWord, IsBlank, IsBroken, IsFirstWord, IsGap, Word}

pub data Line : Type 0 where
  -- a line's words, and the rest after the last one: a gap, and a comment or none
  Worded : List (List ℕ) → List ℕ → Line
  -- a line's words up to something that isn't a word, and that, up to the line's end
  Broken : List (List ℕ) → List ℕ → Line

-- returns the words; what isn't a word is one more, the last
abbrev pub line_words : Line → List (List ℕ)
line_words (Worded words rest) = words
line_words (Broken words tail) = words ++ tail ∷ []

-- holds if the bytes begin with this text as a word, and then this rest
abbrev pub StartsWith : List ℕ → List ℕ → List ℕ → Type 0
StartsWith text bytes rest = (word : Word) × (first : IsFirstWord word bytes rest) × (first.text ≡ text)

-- holds if the bytes begin with these words, one after the other, and then this rest
abbrev pub StartWith : List (List ℕ) → List ℕ → List ℕ → Type 0
StartWith [] bytes rest = bytes ≡ rest
StartWith (word ∷ words) bytes rest = (after : List ℕ) × StartsWith word bytes after × StartWith words after rest

-- holds if the bytes have just these words, and then this rest
abbrev pub AreWords : List (List ℕ) → List ℕ → List ℕ → Type 0
AreWords words bytes rest = StartWith words bytes rest × IsBlank rest

-- bytes that begin with no word, and all that follows their gap
pub record IsTail (tail bytes : List ℕ) : Type 0 where
  pub broken : IsBroken bytes
  pub gap : List ℕ
  pub parts : bytes ≡ gap ++ tail
  pub is_gap : IsGap gap
  pub at_word : IsAtWord tail

abbrev pub IsTaken : Line → List ℕ → Type 0
IsTaken (Worded words rest) bytes = AreWords words bytes rest
IsTaken (Broken words tail) bytes = (after : List ℕ) × StartWith words bytes after × IsTail tail after

-- holds if these are the words of the lines, in their order
abbrev pub AreTaken : List Line → List (List ℕ) → Type 0
AreTaken [] [] = Unit {0}
AreTaken [] (line ∷ others) = ⊥
AreTaken (taken ∷ more) [] = ⊥
AreTaken (taken ∷ more) (line ∷ others) = IsTaken taken line × AreTaken more others

-- ---- lines `proc` and `regs`, and instructions

-- returns whether the byte separates words there: `(`, `)` or `,`
abbrev pub is_sign : ℕ → Bool
is_sign b = (b == 40) || (b == 41) || (b == 44)

-- returns the piece, unless it is empty
abbrev pub some_piece : List ℕ → List (List ℕ)
some_piece [] = []
some_piece (b ∷ piece) = (b ∷ piece) ∷ []

-- returns the pieces of a word between signs, if `front` comes before it
abbrev pub pieces_after : List ℕ → List ℕ → List (List ℕ)
pieces_after front [] = some_piece front
pieces_after front (b ∷ word) = if is_sign b then some_piece front ++ pieces_after [] word else pieces_after (front ++ b ∷ []) word

-- returns whether a word has a quote: a quoted text begins in it, or ends
abbrev pub has_quote : List ℕ → Bool
has_quote word = list_any (λ b. b == 34) word

-- returns the pieces of a word; with a quote it isn't split, since the signs may be in a text
abbrev pub pieces : List ℕ → List (List ℕ)
pieces word = if has_quote word then some_piece word else pieces_after [] word

-- ---- heads

-- returns whether a line of these words begins a procedure
abbrev pub begins_procedure : List (List ℕ) → Bool
begins_procedure [] = false
begins_procedure (first ∷ words) = bytes_eq first (codes "proc")

-- holds if the line's words begin no procedure
abbrev pub HasNoHead : List ℕ → Type 0
HasNoHead line = (taken : Line) × IsTaken taken line × (begins_procedure (line_words taken) ≡ false)
