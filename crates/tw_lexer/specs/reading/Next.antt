-- The result of reading one word of a line.
use Rattle.std.specs.Prelude.{◌≡◌, ℕ, suc, Bool, true, List, [], ◌∷◌, ◌++◌, if◌then◌else◌}
use Rattle.tw_lexer.specs.declared.word.Next as nexts
use Rattle.tw_lexer.specs.declared.word.Next.TheVariants as next
use Rattle.tw_lexer.specs.Seen.{seen}
use Rattle.tw_lexer.specs.Words.{IsAtWord, IsBlank, IsBroken, IsFirstWord, IsGap, is_edge}

abbrev pub IsNext : nexts.Next → List ℕ → Type 0
IsNext next.End bytes = IsBlank bytes
IsNext next.Broken bytes = IsBroken bytes
IsNext (next.Found word rest) bytes = IsFirstWord (seen word) bytes rest.now

-- the rest is what follows the whole gap at the start
pub record IsAfterGap (bytes rest : List ℕ) : Type 0 where
  pub gap : List ℕ
  pub parts : bytes ≡ gap ++ rest
  pub is_gap : IsGap gap
  pub at_word : IsAtWord rest

-- counts the bytes before the first end of a word
abbrev pub bare_length : List ℕ → ℕ
bare_length [] = 0
bare_length (b ∷ rest) = if is_edge b then 0 else suc (bare_length rest)

abbrev pub is_at_edge : List ℕ → Bool
is_at_edge [] = true
is_at_edge (b ∷ rest) = is_edge b
