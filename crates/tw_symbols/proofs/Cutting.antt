-- The pieces of a word, byte by byte.
use Rattle.tw_symbols.proofs.TextNames.{Bool, Bor, List, [], ap, arith, cond, drop, drop-cons, drop-map, drop_all, false, get_or, get_or-drop, is_sign, length, length-drop, length-map, now, pieces_after, refl, some_piece, suc, sym, take, take-map, take-suc, take_all, texts, true, ℕ, ◌++◌, ◌+◌, ◌-◌, ◌<◌, ◌∙◌, ◌∷◌, ◌≡◌, ◌≤◌}
use Rattle.tw_symbols.specs.Answers.{pieces_left}

at_byte : (front : List ℕ) (b : ℕ) (rest : List ℕ) (t : Bool) → is_sign b ≡ t → pieces_after front (b ∷ rest) ≡ cond t (some_piece front ++ pieces_after [] rest) (pieces_after (front ++ b ∷ []) rest)
at_byte front b rest t e = ap (λ (x : Bool). cond x (some_piece front ++ pieces_after [] rest) (pieces_after (front ++ b ∷ []) rest)) e

-- adds one more byte to the piece
piece_more : (word : List ℕ) (start index : ℕ) → start ≤ index → index < length word → take (index + 1 - start) (drop start word) ≡ take (index - start) (drop start word) ++ (get_or word index 0 ∷ [])
piece_more word start index low lt =
    let count : index + 1 - start ≡ suc (index - start) = omega arith in
    let inside : index - start < length (drop start word) = omega (arith, length-drop start word) in
    let place : start + (index - start) ≡ index = omega arith in
    ap (λ (n : ℕ). take n (drop start word)) count ∙ take-suc (drop start word) (index - start) 0 inside
    ∙ ap (λ (b : ℕ). take (index - start) (drop start word) ++ (b ∷ [])) (get_or-drop start word (index - start) 0 ∙ ap (λ (n : ℕ). get_or word n 0) place)

next_place : (word : List ℕ) (index : ℕ) → drop (suc index) word ≡ drop (index + 1) word
next_place word index = let e : suc index ≡ index + 1 = omega arith in ap (λ (n : ℕ). drop n word) e

pub left_first : (word : List ℕ) → pieces_left word 0 0 ≡ pieces_after [] word
unfolding pieces_left
left_first word = refl

pub left_last : (word : List ℕ) (start : ℕ) → pieces_left word start (length word) ≡ some_piece (take (length word - start) (drop start word))
unfolding pieces_left
left_last word start = ap (λ (r : List ℕ). pieces_after (take (length word - start) (drop start word)) r) (drop_all (length word) word (omega arith))

pub goes_on : (word : List ℕ) (start index : ℕ) → start ≤ index → index < length word → is_sign (get_or word index 0) ≡ false → pieces_left word start (index + 1) ≡ pieces_left word start index
unfolding pieces_left
goes_on word start index low lt e =
    let front = take (index - start) (drop start word) in
    let b = get_or word index 0 in
    sym (ap (pieces_after front) (drop-cons word index 0 lt) ∙ at_byte front b (drop (suc index) word) false e ∙ ap (λ (f : List ℕ). pieces_after f (drop (suc index) word)) (sym (piece_more word start index low lt))
    ∙ ap (pieces_after (take (index + 1 - start) (drop start word))) (next_place word index))

pub ends : (word : List ℕ) (start index : ℕ) → start ≤ index → index < length word → is_sign (get_or word index 0) ≡ true
    → some_piece (take (index - start) (drop start word)) ++ pieces_left word (index + 1) (index + 1) ≡ pieces_left word start index
unfolding pieces_left
ends word start index low lt e =
    let front = take (index - start) (drop start word) in
    let b = get_or word index 0 in
    let none : index + 1 - (index + 1) ≡ 0 = omega arith in
    sym (ap (pieces_after front) (drop-cons word index 0 lt) ∙ at_byte front b (drop (suc index) word) true e ∙ ap (λ (r : List ℕ). some_piece front ++ pieces_after [] r) (next_place word index)
    ∙ ap (λ (n : ℕ). some_piece front ++ pieces_after (take n (drop (index + 1) word)) (drop (index + 1) word)) (sym none))

-- ---- the first words

pub first_taken : (n : ℕ) (words : List (Bor (List ℕ))) → texts (take n words) ≡ take n (texts words)
first_taken n words = sym (take-map now n words)

pub all_taken : (n : ℕ) (words : List (Bor (List ℕ))) → length words ≤ n → texts words ≡ take n (texts words)
all_taken n words low =
    let inside : length (texts words) ≤ n = omega (arith, low, length-map words now) in
    sym (take_all n (texts words) inside)

-- ---- the words after the first

pub left_after : (n : ℕ) (words : List (Bor (List ℕ))) → texts (take (length words - n) (drop n words)) ≡ drop n (texts words)
left_after n words =
    let all : length (drop n words) ≤ length words - n = omega (arith, length-drop n words) in
    ap texts (take_all (length words - n) (drop n words) all) ∙ sym (drop-map now n words)

pub none_after : (n : ℕ) (words : List (Bor (List ℕ))) → length words ≤ n → texts [] ≡ drop n (texts words)
none_after n words low =
    let inside : length (texts words) ≤ n = omega (arith, low, length-map words now) in
    sym (drop_all n (texts words) inside)
