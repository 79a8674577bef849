-- Words that are compared one by one.
use Rattle.tw_symbols.proofs.TextNames.{Bool, Bor, List, [], ap, arith, bytes_eq, bytes_eq-Decides, cond, drop, false, filter, is_unnamed, IsLine, length-append, length-map, now, Names, None, Option, Procedures, Some, refl, subst, length, sym, take, take_all, texts, true, ℕ, ◌++◌, ◌+◌, ◌-◌, ◌<◌, ◌∙◌, ◌∷◌, ◌≡◌, ◌≤◌}
use Rattle.std.specs.Prelude.{IfSome, slice_index_or}
use Rattle.tw_symbols.specs.LineNames.{kind_of}
use Rattle.tw_symbols.specs.Renamed.{AreOthers}
use Rattle.tw_symbols.specs.declared.line_kind.LineKind.{LineKind}

abbrev pub Words : Type 0
Words = List (Bor (List ℕ))

-- returns the words after the first
abbrev pub left : Words → Words
left words = take (length words - 1) (drop 1 words)

left_is : (w : Bor (List ℕ)) (ws : Words) → left (w ∷ ws) ≡ ws
left_is w ws = take_all (length (w ∷ ws) - 1) ws (omega arith)

same_word : (w p : List ℕ) → bytes_eq p w ≡ true → p ≡ w
same_word w p e = (bytes_eq-Decides p w).0 e

one_more : (w p : Bor (List ℕ)) (ps : Words) (rest : List (List ℕ)) → bytes_eq p.now w.now ≡ true → texts (left (p ∷ ps)) ≡ rest → texts (p ∷ ps) ≡ w.now ∷ rest
one_more w p ps rest same more = ap (λ (x : List ℕ). x ∷ texts ps) (same_word w.now p.now same) ∙ ap (λ (xs : List (List ℕ)). w.now ∷ xs) (ap texts (sym (left_is p ps)) ∙ more)

-- one more word before the others
pub listed_more : (front plains : Words) (middle : List (List ℕ)) (d e : Bor (List ℕ)) (rest : Option (Bor Words)) → 1 ≤ length front → 1 ≤ length plains → bytes_eq (slice_index_or plains 0 e).now (slice_index_or front 0 d).now ≡ true
    → IfSome rest (λ more. texts (left plains) ≡ texts (left front) ++ (middle ++ texts more.now)) → IfSome rest (λ more. texts plains ≡ texts front ++ (middle ++ texts more.now))
listed_more front plains middle d e None some also same more = tt
listed_more [] plains middle d e (Some rest) some also same more = absurd (omega (arith, some))
listed_more (w ∷ ws) [] middle d e (Some rest) some also same more = absurd (omega (arith, also))
listed_more (w ∷ ws) (p ∷ ps) middle d e (Some rest) some also same more =
    one_more w p ps (texts ws ++ (middle ++ texts rest.now)) same (more ∙ ap (λ (xs : Words). texts xs ++ (middle ++ texts rest.now)) (left_is w ws))

pub same_more : (words plains : Words) (d e : Bor (List ℕ)) → 1 ≤ length words → 1 ≤ length plains → bytes_eq (slice_index_or plains 0 e).now (slice_index_or words 0 d).now ≡ true
    → texts (left plains) ≡ texts (left words) → texts plains ≡ texts words
same_more [] plains d e some also same more = absurd (omega (arith, some))
same_more (w ∷ ws) [] d e some also same more = absurd (omega (arith, also))
same_more (w ∷ ws) (p ∷ ps) d e some also same more = one_more w p ps (texts ws) same (more ∙ ap texts (left_is w ws))

-- what is left after a word, and after one more
pub word_more : (plains : Words) (w : List ℕ) (d : Bor (List ℕ)) → 1 ≤ length plains → is_unnamed w ≡ true → bytes_eq (slice_index_or plains 0 d).now w ≡ true → texts plains ≡ filter is_unnamed (w ∷ []) ++ texts (left plains)
word_more [] w d some unnamed same = absurd (omega (arith, some))
word_more (p ∷ ps) w d some unnamed same =
    ap (λ (x : List ℕ). x ∷ texts ps) (same_word w p.now same) ∙ ap (λ (xs : Words). w ∷ texts xs) (sym (left_is p ps)) ∙ sym (ap (λ (t : Bool). cond t (w ∷ []) [] ++ texts (left (p ∷ ps))) unnamed)

pub unnamed_more : (words : Words) (d : Bor (List ℕ)) (before rest : Option (Bor Words)) (m : Bor Words) (Holds : List (List ℕ) → Type 0) → 1 ≤ length words → before ≡ Some m
    → IfSome before (λ more. (tail : List (List ℕ)) → texts more.now ≡ filter is_unnamed (texts words) ++ tail → Holds tail) → IfSome rest (λ more. texts m.now ≡ filter is_unnamed ((slice_index_or words 0 d).now ∷ []) ++ texts more.now)
    → IfSome rest (λ more. (tail : List (List ℕ)) → texts more.now ≡ filter is_unnamed (texts (left words)) ++ tail → Holds tail)
unnamed_more words d before None m Holds some was so_far one = tt
unnamed_more [] d before (Some more) m Holds some was so_far one = absurd (omega (arith, some))
unnamed_more (w ∷ ws) d before (Some more) m Holds some was so_far one = λ tail others.
    subst (λ (o : Option (Bor Words)). IfSome o (λ more. (tail : List (List ℕ)) → texts more.now ≡ filter is_unnamed (texts (w ∷ ws)) ++ tail → Holds tail)) was so_far tail
    (one ∙ ap (λ (xs : List (List ℕ)). filter is_unnamed (w.now ∷ []) ++ xs) (others ∙ ap (λ (xs : Words). filter is_unnamed (texts xs) ++ tail) (left_is w ws)) ∙ by (is_unnamed w.now) tail)
  where
    by : (t : Bool) (tail : List (List ℕ)) → cond t (w.now ∷ []) [] ++ (filter is_unnamed (texts ws) ++ tail) ≡ cond t (w.now ∷ filter is_unnamed (texts ws)) (filter is_unnamed (texts ws)) ++ tail
    by true tail = refl
    by false tail = refl

pub unnamed_end : (words plains : Words) (all : List (List ℕ)) (rest : Option (Bor Words)) → length words < 1 → IfSome rest (λ more. (tail : List (List ℕ)) → texts more.now ≡ filter is_unnamed (texts words) ++ tail → texts plains ≡ all ++ tail)
    → IfSome rest (λ more. texts plains ≡ all ++ texts more.now)
unnamed_end words plains all None none so_far = tt
unnamed_end [] plains all (Some more) none so_far = so_far (texts more.now) refl
unnamed_end (w ∷ ws) plains all (Some more) none so_far = absurd (omega (arith, none))

-- a line whose first word stays
pub line_more : (procedures : Procedures) (number : ℕ) (names after : Names) (k : LineKind) (first : List ℕ) (words : List (List ℕ)) (plains : Words) (e : Bor (List ℕ)) → 1 ≤ length plains
    → bytes_eq (slice_index_or plains 0 e).now first ≡ true → k ≡ kind_of first words → AreOthers k procedures number names words (texts (left plains)) after → IsLine procedures number names (first ∷ words) (texts plains) after
line_more procedures number names after k first words [] e some same kind_is are = absurd (omega (arith, some))
line_more procedures number names after k first words (p ∷ ps) e some same kind_is are =
    (same_word first p.now same, subst (λ (x : LineKind). AreOthers x procedures number names words (texts ps) after) kind_is (subst (λ (xs : Words). AreOthers k procedures number names words (texts xs) after) (left_is p ps) are))

-- how many words come before the others
pub counted_words : (plains more : Words) (front middle : List (List ℕ)) → texts plains ≡ front ++ (middle ++ texts more) → length plains - length more ≡ length front + length middle
counted_words plains more front middle e = omega (arith, length-map plains now, length-map more now, ap length e, length-append front (middle ++ texts more), length-append middle (texts more))
