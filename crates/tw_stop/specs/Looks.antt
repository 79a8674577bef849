-- The answers of a signal's looks, one after the other.
use Rattle.std.specs.Prelude.{◌≡◌, ℕ, Bool, false, List, [], ◌∷◌, ◌++◌, replicate}
use Rattle.std.specs.List.{FoldsTo}
use Rattle.tw_stop.specs.declared.signal.Never.{Never}

-- the signal becomes another by looks with these answers
abbrev pub Looked : {S : Type 0} → (S → Bool → S → Type 0) → S → S → List Bool → Type 0
Looked says old new answers = FoldsTo says old answers new

-- by some looks
abbrev pub HasLooked : {S : Type 0} → (S → Bool → S → Type 0) → S → S → Type 0
HasLooked says old new = (answers : List Bool) × Looked says old new answers

-- a look at the signal that never stops a run
abbrev pub always_no : Never → Bool → Never → Type 0
always_no old answer new = answer ≡ false

-- returns so many answers "no"
abbrev pub noes : ℕ → List Bool
noes count = replicate count false

-- returns so many answers "no", and the last answer, after which nobody looks
abbrev pub looks : ℕ → Bool → List Bool
looks before last = noes before ++ last ∷ []
