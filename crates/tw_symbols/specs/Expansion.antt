-- Symbolic assembly texts: which have names, and what they expand to.
use Rattle.std.specs.Prelude.{◌≡◌, ◌⊎◌, ℕ, List, [], ◌∷◌, codes, filter, length, take}
use Rattle.std.specs.Str.Lines.{lines}
use Rattle.tw_symbols.specs.Lines.{AreWords}
use Rattle.tw_symbols.specs.Renamed.{IsRenamed, is_written}

-- holds if the first line that has a word has just `names`
abbrev pub HasNames : List (List ℕ) → Type 0
HasNames [] = ⊥
HasNames (line ∷ others) = ((rest : List ℕ) × AreWords (codes "names" ∷ []) line rest) ⊎ (((rest : List ℕ) × AreWords [] line rest) × HasNames others)

-- holds if the second text is the first with its names replaced; a text that has none stays
abbrev pub ExpandsTo : List ℕ → List ℕ → Type 0
ExpandsTo text plain = (HasNames (lines text) × IsRenamed text plain) ⊎ ((HasNames (lines text) → ⊥) × (plain ≡ text))

-- returns the number of the line whose expansion has the line of this number of an expanded text
abbrev pub written_line : List ℕ → ℕ → ℕ
written_line plain number = length (filter is_written (take number (lines plain)))

-- holds for that; a text that has no names stays
abbrev pub IsWrittenAt : List ℕ → List ℕ → ℕ → ℕ → Type 0
IsWrittenAt text plain at number = (HasNames (lines text) × (number ≡ written_line plain at)) ⊎ ((HasNames (lines text) → ⊥) × (number ≡ at))
