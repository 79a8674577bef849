-- Numbers that are written for C.
use Rattle.std.specs.Prelude.{◌≡◌, ◌++◌}
use Rattle.tw_handles.specs.Names.{ℕ, List, drop, length, min, take}
use Rattle.tw_handles.specs.Codes.{done}

-- Returns the buffer with the numbers at its start, as many as there is room for. A later version has more numbers, so callers of this one
-- have less room, and those of later ones more.
abbrev pub filled : List ℕ → List ℕ → List ℕ
filled found old = take (min (length found) (length old)) found ++ drop (min (length found) (length old)) old

abbrev pub Fills : List ℕ → List ℕ → List ℕ → ℕ → Type 0
Fills numbers old new code = (new ≡ filled numbers old) × (code ≡ done)
