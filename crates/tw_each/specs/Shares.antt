-- The chunks of lines that threads answer, for private clauses.
use Rattle.std.specs.Prelude.{◌≡◌, ◌++◌, ◌+◌, ◌<◌, ◌/◌, ◌%◌, ◌∷◌, min}
use Rattle.tw_each.specs.Names.{ℕ, List, [], Result, Ok, Err}
use Rattle.tw_each.specs.declared.lines.Answers.{Answers}
use Rattle.tw_each.specs.Worst.{worse}
use Rattle.tw_each.specs.declared.worst.WorstEnd.{WorstEnd}
use Rattle.tw_each.specs.declared.worst.WorstEnd.TheVariants as ends

-- holds for how many chunks of this size so many items have
abbrev pub AreChunks : ℕ → ℕ → ℕ → Type 0
AreChunks size items count = (0 < size) × (count ≡ items / size + min 1 (items % size))

-- holds for the answers of all chunks, one after the other
abbrev pub AreMerged : {E : Type 0} → List (Result Answers E) → List ℕ → WorstEnd → Type 0
AreMerged [] text worst = (text ≡ []) × (worst ≡ ends.Quiet)
AreMerged (Ok answers ∷ parts) text worst = (rest : List ℕ) × (others : WorstEnd) × AreMerged parts rest others × (text ≡ answers.text.items ++ rest) × (worst ≡ (worse answers.worst others))
AreMerged (Err why ∷ parts) text worst = ⊥
