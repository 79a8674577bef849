-- Why words encode no inputs.
use Rattle.std.specs.Prelude.{◌≡◌, ℕ, List, ⊤}
use Rattle.tw_inputs.specs.InputWords.{IsRejectedWord, refused_word}
use Rattle.tw_inputs.specs.declared.words.WordError.{WordError}
use Rattle.tw_inputs.specs.declared.words.WordError.TheVariants.{NoMemory, Refused}

-- holds if this reason comes from these words
abbrev pub IsInputReason : List (List ℕ) → WordError → Type 0
IsInputReason words NoMemory = ⊤
IsInputReason words (Refused number reason) = IsRejectedWord words (refused_word number reason.items)

-- holds if the word with this number is rejected
abbrev pub IsRejection : ℕ → WordError → Type 0
IsRejection number NoMemory = ⊤
IsRejection number (Refused at reason) = at ≡ number
