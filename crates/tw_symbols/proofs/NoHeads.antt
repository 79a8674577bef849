-- Lines that begin no procedure, as their first byte says.
use Rattle.std.proofs.Common.{[], ◌≡◌, ℕ, Bool, true, false, List, ◌∷◌, ◌++◌, refl, sym, ap, ◌∙◌, append-nil, codes}
use Rattle.tw_symbols.proofs.TextNames.{Broken, HasNoHead, IsAfterGap, IsTaken, Line, Procedures, Worded, begins_procedure, begins_with_p, bytes_eq, bytes_eq-Decides, gap_once, head_names, line_names, line_words, with_line, with_words}
use Rattle.tw_symbols.proofs.EachLine.{line_of}
use Rattle.tw_symbols.proofs.Taking.{text_here}

other_word : (word here after : List ℕ) → here ≡ word ++ after → begins_with_p here ≡ false → bytes_eq word (codes "proc") ≡ false
other_word word here after parts none = by (bytes_eq word (codes "proc")) refl
  where
    differ : false ≡ true → ⊥
    differ e = cc

    by : (t : Bool) → bytes_eq word (codes "proc") ≡ t → bytes_eq word (codes "proc") ≡ false
    by true e = absurd (differ (sym none ∙ ap begins_with_p parts ∙ ap (λ (x : List ℕ). begins_with_p (x ++ after)) ((bytes_eq-Decides word (codes "proc")).0 e)))
    by false e = e

other_line : (line here : List ℕ) → IsAfterGap line here → begins_with_p here ≡ false → (t : Line) → IsTaken t line → begins_procedure (line_words t) ≡ false
other_line line here a none (Worded [] rest) is = refl
other_line line here a none (Worded (w ∷ ws) rest) ((after, (word, f, same), more), blank) =
    other_word w here after (text_here word line here after f a ∙ ap (λ (x : List ℕ). x ++ after) same) none
other_line line here a none (Broken [] tail) (after, same, is) =
    other_word tail here [] (sym (gap_once is.gap a.gap tail here is.is_gap a.is_gap is.at_word a.at_word (sym is.parts ∙ sym same ∙ a.parts)) ∙ sym (append-nil tail)) none
other_line line here a none (Broken (w ∷ ws) tail) (end, (after, (word, f, same), more), is) =
    other_word w here after (text_here word line here after f a ∙ ap (λ (x : List ℕ). x ++ after) same) none

pub no_head : (line here : List ℕ) → IsAfterGap line here → begins_with_p here ≡ false → HasNoHead line
no_head line here a none = let found = line_of line in (found.0, found.1, other_line line here a none found.0 found.1)

-- ---- such a line adds nothing

no_words : (p : Procedures) (number : ℕ) (words : List (List ℕ)) → begins_procedure words ≡ false → p ≡ with_words p number words
no_words p number [] e = refl
no_words p number (first ∷ words) e = rw e refl

pub no_procedure : (p : Procedures) (number : ℕ) (t : Line) → begins_procedure (line_words t) ≡ false → p ≡ with_line p number t
no_procedure p number t e = no_words p number (line_words t) e

none_named : (words : List (List ℕ)) → begins_procedure words ≡ false → [] ≡ head_names words
none_named [] e = refl
none_named (first ∷ words) e = rw e refl

pub no_name : (names : List (List ℕ)) (t : Line) → begins_procedure (line_words t) ≡ false → names ≡ names ++ line_names t
no_name names t e = sym (append-nil names) ∙ ap (λ (more : List (List ℕ)). names ++ more) (none_named (line_words t) e)
