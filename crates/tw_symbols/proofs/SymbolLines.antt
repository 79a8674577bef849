-- The names of procedures, as a text's lines are read one by one.
use Rattle.tw_symbols.proofs.TextNames.{AreTaken, IsTaken, Line, List, [], ap, flat_map, flat_map_more, line_names, ℕ, ◌++◌, ◌∙◌, ◌∷◌, ◌≡◌}
use Rattle.tw_symbols.proofs.Walk.{taken_more}

-- holds if these are the names in the lines
abbrev pub AreRead : List (List ℕ) → List (List ℕ) → Type 0
AreRead ls names = (all : List Line) × AreTaken all ls × (names ≡ flat_map line_names all)

pub none_read : (names : List (List ℕ)) → names ≡ [] → AreRead [] names
none_read names e = ([], tt, e)

pub read_more : (ls : List (List ℕ)) (line : List ℕ) (names new : List (List ℕ)) → AreRead ls names → ((t : Line) × IsTaken t line × (new ≡ names ++ line_names t)) → AreRead (ls ++ line ∷ []) new
read_more ls line names new (all, are, is) (t, taken, e) =
    (all ++ t ∷ [], taken_more all ls t line are taken, e ∙ ap (λ (ns : List (List ℕ)). ns ++ line_names t) is ∙ flat_map_more line_names [] all t)
