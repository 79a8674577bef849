-- A text is read line by line.
use Rattle.tw_symbols.proofs.TextNames.{AreTaken, AreWords, HasNames, IsTaken, Line, List, None, Procedures, Some, [], ap, arith, codes, drop, inl, inr, length, refl, slice_get, subst, suc, with_line, with_lines, zero, ℕ, ◌++◌, ◌+◌, ◌∙◌, ◌∷◌, ◌≡◌}
use Rattle.tw_symbols.proofs.Taking.{words_once}

pub with_lines_more : (p : Procedures) (n : ℕ) (all : List Line) (t : Line) → with_lines p n (all ++ t ∷ []) ≡ with_line (with_lines p n all) (n + length all) t
with_lines_more p n [] t = let e : n ≡ n + 0 = omega arith in ap (λ (k : ℕ). with_line p k t) e
with_lines_more p n (l ∷ all) t =
    let e : (n + 1) + length all ≡ n + suc (length all) = omega arith in
    with_lines_more (with_line p n l) (n + 1) all t ∙ ap (λ (k : ℕ). with_line (with_lines (with_line p n l) (n + 1) all) k t) e

pub taken_more : (all : List Line) (ls : List (List ℕ)) (t : Line) (line : List ℕ) → AreTaken all ls → IsTaken t line → AreTaken (all ++ t ∷ []) (ls ++ line ∷ [])
taken_more [] [] t line are is = (is, tt)
taken_more [] (l ∷ ls) t line are is = absurd are
taken_more (x ∷ all) [] t line are is = absurd are
taken_more (x ∷ all) (l ∷ ls) t line (first, more) is = (first, taken_more all ls t line more is)

pub taken_length : (all : List Line) (ls : List (List ℕ)) → AreTaken all ls → length all ≡ length ls
taken_length [] [] are = refl
taken_length [] (l ∷ ls) are = absurd are
taken_length (x ∷ all) [] are = absurd are
taken_length (x ∷ all) (l ∷ ls) (_, more) = ap suc (taken_length all ls more)

-- returns the line after those before it
pub taken_at : (all : List Line) (before : List (List ℕ)) (line : List ℕ) (others : List (List ℕ)) → AreTaken all (before ++ line ∷ others) → (t : Line) × IsTaken t line × (drop (length before) all ≡ t ∷ drop (suc (length before)) all)
taken_at [] [] line others are = absurd are
taken_at (x ∷ all) [] line others (is, _) = (x, is, refl)
taken_at [] (l ∷ before) line others are = absurd are
taken_at (x ∷ all) (l ∷ before) line others (_, more) = taken_at all before line others more

-- ---- the line `names`

-- holds if these lines have no word
abbrev pub AreBlank : List (List ℕ) → Type 0
AreBlank [] = Unit {0}
AreBlank (line ∷ others) = ((rest : List ℕ) × AreWords [] line rest) × AreBlank others

pub blank_more : (ls : List (List ℕ)) (line rest : List ℕ) → AreBlank ls → AreWords [] line rest → AreBlank (ls ++ line ∷ [])
blank_more [] line rest are is = ((rest, is), tt)
blank_more (l ∷ ls) line rest (first, more) is = (first, blank_more ls line rest more is)

pub not_blank : (words : List (List ℕ)) (word line rest : List ℕ) → AreWords (word ∷ words) line rest → ((after : List ℕ) × AreWords [] line after) → ⊥
not_blank words word line rest are (after, blank) = no ((words_once [] (word ∷ words) line after rest blank are).0)
  where
    no : [] ≡ word ∷ words → ⊥
    no e = cc

pub blank_no_names : (ls : List (List ℕ)) → AreBlank ls → HasNames ls → ⊥
blank_no_names [] are has = has
blank_no_names (l ∷ ls) (first, more) (inl (rest, names)) = not_blank [] (codes "names") l rest names first
blank_no_names (l ∷ ls) (first, more) (inr (_, has)) = blank_no_names ls more has

pub names_after_line : (before : List (List ℕ)) (others : List (List ℕ)) → AreBlank before → HasNames others → HasNames (before ++ others)
names_after_line [] others are has = has
names_after_line (l ∷ before) others (first, more) has = inr (first, names_after_line before others more has)

pub after_names : (before : List (List ℕ)) (others : List (List ℕ)) → AreBlank before → HasNames (before ++ others) → HasNames others
after_names [] others are has = has
after_names (l ∷ before) others (first, more) (inl (rest, names)) = absurd (not_blank [] (codes "names") l rest names first)
after_names (l ∷ before) others (first, more) (inr (_, has)) = after_names before others more has

-- ---- the line at an index

some_is : (a b : List ℕ) → Some a ≡ Some b → a ≡ b
some_is a b e = cc

pub taken_some : (all : List Line) (ls : List (List ℕ)) (i : ℕ) (line : List ℕ) → AreTaken all ls → slice_get ls i ≡ Some line → (t : Line) × IsTaken t line × (slice_get all i ≡ Some t)
taken_some [] [] i line are e = absurd cc
taken_some [] (l ∷ ls) i line are e = absurd are
taken_some (t ∷ all) [] i line are e = absurd are
taken_some (t ∷ all) (l ∷ ls) zero line (is, more) e = (t, subst (IsTaken t) (some_is l line e) is, refl)
taken_some (t ∷ all) (l ∷ ls) (suc i) line (is, more) e = taken_some all ls i line more e

pub taken_none : (all : List Line) (ls : List (List ℕ)) (i : ℕ) → AreTaken all ls → slice_get ls i ≡ None → slice_get all i ≡ None
taken_none [] [] i are e = refl
taken_none [] (l ∷ ls) i are e = absurd are
taken_none (t ∷ all) [] i are e = absurd are
taken_none (t ∷ all) (l ∷ ls) zero (is, more) e = absurd cc
taken_none (t ∷ all) (l ∷ ls) (suc i) (is, more) e = taken_none all ls i more e
