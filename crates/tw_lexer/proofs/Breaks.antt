-- Lines that are written one after the other, each with a line feed, are the lines of the text.
use Rattle.std.proofs.Common.{◌≡◌, ◌==◌, ℕ, suc, ◌-◌, false, List, [], ◌∷◌, ◌++◌, length, map, refl, ap, ◌∙◌, append_assoc, arith}
use Rattle.std.specs.Prelude.{◌||◌, slice_index}
use Rattle.std.specs.List.{AllByRecursion, concat, onto_first, slice_split}
use Rattle.std.specs.Str.Lines.{lines, lines_of_parts, strip_carriage_return}
use Rattle.std.proofs.lemmas.List.Splits.{slice_split-cons_no}
use Rattle.tw_lexer.proofs.Once.{neither}

abbrev pub HasNoLineFeed : List ℕ → Type 0
HasNoLineFeed text = AllByRecursion (λ b. (b == 10) ≡ false) text

-- its last byte is no carriage return
abbrev pub EndsInNoReturn : List ℕ → Type 0
EndsInNoReturn text = (slice_index text (length text - 1) == 13) ≡ false

abbrev pub MayBeLine : List ℕ → Type 0
MayBeLine text = HasNoLineFeed text × EndsInNoReturn text

abbrev pub with_line_feed : List ℕ → List ℕ
with_line_feed line = line ++ 10 ∷ []

cut : (line rest : List ℕ) → HasNoLineFeed line → slice_split (λ b. b == 10) (line ++ 10 ∷ rest) ≡ line ∷ slice_split (λ b. b == 10) rest
cut [] rest none = refl
cut (b ∷ line) rest none = slice_split-cons_no (λ c. c == 10) b (line ++ 10 ∷ rest) none.0 ∙ ap (onto_first b) (cut line rest none.1)

parts : (ls : List (List ℕ)) → AllByRecursion MayBeLine ls → slice_split (λ b. b == 10) (concat (map with_line_feed ls)) ≡ ls ++ [] ∷ []
parts [] are = refl
parts (l ∷ ls) are =
    ap (slice_split (λ b. b == 10)) (append_assoc l (10 ∷ []) (concat (map with_line_feed ls))) ∙ cut l (concat (map with_line_feed ls)) are.0.0 ∙ ap (λ (xs : List (List ℕ)). l ∷ xs) (parts ls are.1)

kept : (line : List ℕ) → EndsInNoReturn line → strip_carriage_return line ≡ line
kept line ends = rw ends refl

whole : (ls : List (List ℕ)) → AllByRecursion MayBeLine ls → lines_of_parts (ls ++ [] ∷ []) ≡ ls
whole [] are = refl
whole (l ∷ []) are = ap (λ (x : List ℕ). x ∷ []) (kept l are.0.1)
whole (l ∷ m ∷ ls) are =
    ap (λ (x : List ℕ). x ∷ lines_of_parts (m ∷ ls ++ [] ∷ [])) (kept l are.0.1) ∙ ap (λ (xs : List (List ℕ)). l ∷ xs) (whole (m ∷ ls) are.1)

pub lines_back : (ls : List (List ℕ)) → AllByRecursion MayBeLine ls → lines (concat (map (λ line. line ++ 10 ∷ []) ls)) ≡ ls
lines_back ls are = ap lines_of_parts (parts ls are) ∙ whole ls are

-- ---- texts with neither byte

abbrev pub IsOneLine : List ℕ → Type 0
IsOneLine text = AllByRecursion (λ b. (b == 10 || b == 13) ≡ false) text

pub one_line_feeds : (text : List ℕ) → IsOneLine text → HasNoLineFeed text
one_line_feeds [] is = tt
one_line_feeds (b ∷ text) is = ((neither (b == 10) (b == 13) is.0).0, one_line_feeds text is.1)

one_line_ends : (text : List ℕ) → IsOneLine text → EndsInNoReturn text
one_line_ends [] is = refl
one_line_ends (b ∷ []) is = (neither (b == 10) (b == 13) is.0).1
one_line_ends (b ∷ c ∷ text) is =
    let at : length (b ∷ c ∷ text) - 1 ≡ suc (length (c ∷ text) - 1) = omega arith in
    ap (λ (i : ℕ). slice_index (b ∷ c ∷ text) i == 13) at ∙ one_line_ends (c ∷ text) is.1

pub one_line_may : (text : List ℕ) → IsOneLine text → MayBeLine text
one_line_may text is = (one_line_feeds text is, one_line_ends text is)

pub one_lines_back : (ls : List (List ℕ)) → AllByRecursion IsOneLine ls → lines (concat (map (λ line. line ++ 10 ∷ []) ls)) ≡ ls
one_lines_back ls are = lines_back ls (may ls are)
  where
    may : (ls : List (List ℕ)) → AllByRecursion IsOneLine ls → AllByRecursion MayBeLine ls
    may [] are = tt
    may (l ∷ ls) are = (one_line_may l are.0, may ls are.1)
