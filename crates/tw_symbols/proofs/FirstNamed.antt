-- Whether a text has names, as its lines are read one by one.
use Rattle.tw_symbols.proofs.TextNames.{Bool, HasNames, IsNamed, IsTaken, Line, List, None, Some, [], false, line_words, lines, named_by, subst, sym, true, ℕ, ◌++◌, ◌∷◌, ◌≡◌}
use Rattle.tw_symbols.proofs.NamesLine.{blank_line, named_false, named_true}
use Rattle.tw_symbols.proofs.Walk.{AreBlank, after_names, blank_more, names_after_line}

pub still_blank : (ls : List (List ℕ)) (line : List ℕ) (t : Line) → AreBlank ls → IsTaken t line → named_by (line_words t) ≡ None → AreBlank (ls ++ line ∷ [])
still_blank ls line t blank is e = let found = blank_line t line is e in blank_more ls line found.0 blank found.1

pub named_here : (text : List ℕ) (before others : List (List ℕ)) (line : List ℕ) (t : Line) (b : Bool) → lines text ≡ before ++ line ∷ others → AreBlank before → IsTaken t line → named_by (line_words t) ≡ Some b → IsNamed b text
named_here text before others line t true parts blank is e = subst HasNames (sym parts) (names_after_line before (line ∷ others) blank (named_true t line others is e))
named_here text before others line t false parts blank is e = λ has. named_false t line others is e (after_names before (line ∷ others) blank (subst HasNames parts has))
