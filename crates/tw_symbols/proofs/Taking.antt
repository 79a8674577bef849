-- The words of a line are one list.
use Rattle.tw_symbols.proofs.TextNames.{AreTaken, AreWords, Bare, Broken, IsAfterGap, IsBlank, IsFirstWord, IsTail, IsTaken, IsWord, Line, List, Quoted, StartWith, StartsWith, Word, Worded, [], ap, arith, blank_no_word, first_word_once, gap_once, length, length-append, refl, subst, sym, take, take_at, word_here, ℕ, ◌++◌, ◌+◌, ◌-◌, ◌<◌, ◌∙◌, ◌∷◌, ◌≡◌}

-- returns what is before a text's end
cut_front : (text after : List ℕ) → take (length (text ++ after) - length after) (text ++ after) ≡ text
cut_front text after =
    let e : length (text ++ after) - length after ≡ length text = omega (arith, length-append text after) in
    ap (λ (n : ℕ). take n (text ++ after)) e ∙ take_at text after (length text) refl

pub text_here : (w : Word) (bytes here after : List ℕ) (f : IsFirstWord w bytes after) → IsAfterGap bytes here → here ≡ f.text ++ after
text_here w bytes here after f a =
    gap_once a.gap f.gap here (f.text ++ after) a.is_gap f.is_gap a.at_word (word_here w f.text after f.is_word).0 (sym a.parts ∙ f.parts)

-- a word that is cut out after the gap
pub cut_word : (w : Word) (bytes here after : List ℕ) → IsAfterGap bytes here → IsFirstWord w bytes after → StartsWith (take (length here - length after) here) bytes after
cut_word w bytes here after a f =
    let e = text_here w bytes here after f a in
    (w, f, sym (cut_front f.text after) ∙ ap (λ (x : List ℕ). take (length x - length after) x) (sym e))

pub rest_length : (w : Word) (bytes here after : List ℕ) → IsAfterGap bytes here → IsFirstWord w bytes after → (n : ℕ) × (length here ≡ n + length after)
rest_length w bytes here after a f = (length f.text, ap length (text_here w bytes here after f a) ∙ length-append f.text after)

pub cut_word_at : (w : Word) (bytes here after : List ℕ) (n : ℕ) → IsAfterGap bytes here → IsFirstWord w bytes after → n + length after ≡ length here → StartsWith (take n here) bytes after
cut_word_at w bytes here after n a f e =
    let count : length here - length after ≡ n = omega (arith, e) in
    subst (λ (k : ℕ). StartsWith (take k here) bytes after) count (cut_word w bytes here after a f)

-- the rest after a word is shorter
nonempty : (w : Word) (text : List ℕ) → IsWord w text → 0 < length text
nonempty (Bare []) text is = absurd is.0
nonempty (Bare (b ∷ bs)) text is = subst (λ (t : List ℕ). 0 < length t) (sym is.1) (omega arith)
nonempty (Quoted q) text (inside, is, same) = subst (λ (t : List ℕ). 0 < length t) (sym same) (omega arith)

pub shorter : (w : Word) (bytes after : List ℕ) → IsFirstWord w bytes after → length after < length bytes
shorter w bytes after f =
    let some = nonempty w f.text f.is_word in
    let all : length bytes ≡ length f.gap + (length f.text + length after) = ap length f.parts ∙ length-append f.gap (f.text ++ after) ∙ ap (λ (n : ℕ). length f.gap + n) (length-append f.text after) in
    omega (arith, some, all)

-- adds one more word
pub first_more : (ws : List (List ℕ)) (w line bytes rest : List ℕ) → StartWith ws line bytes → StartsWith w bytes rest → StartWith (ws ++ w ∷ []) line rest
first_more [] w line bytes rest are first = (rest, subst (λ (b : List ℕ). StartsWith w b rest) (sym are) first, refl)
first_more (v ∷ vs) w line bytes rest (after, is, more) first = (after, is, first_more vs w after bytes rest more first)

-- ---- once

first_once : (t u bytes rest after : List ℕ) → StartsWith t bytes rest → StartsWith u bytes after → (t ≡ u) × (rest ≡ after)
first_once t u bytes rest after (w, f, e) (v, g, d) =
    let one = first_word_once w v bytes rest after f g in
    let same = gap_once f.gap g.gap (f.text ++ rest) (g.text ++ after) f.is_gap g.is_gap (word_here w f.text rest f.is_word).0 (word_here v g.text after g.is_word).0 (sym f.parts ∙ g.parts) in
    let cut : f.text ≡ g.text =
    sym (cut_front f.text rest) ∙ ap (λ (x : List ℕ). take (length x - length rest) x) same ∙ ap (λ (x : List ℕ). take (length (g.text ++ after) - length x) (g.text ++ after)) one.1 ∙ cut_front g.text after in
    (sym e ∙ cut ∙ d, one.1)

no_word_there : (t bytes rest : List ℕ) → IsBlank bytes → StartsWith t bytes rest → ⊥
no_word_there t bytes rest blank (w, f, e) = blank_no_word w bytes rest blank f

pub words_once : (ws vs : List (List ℕ)) (bytes rest after : List ℕ) → AreWords ws bytes rest → AreWords vs bytes after → (ws ≡ vs) × (rest ≡ after)
words_once [] [] bytes rest after (a, _) (b, _) = (refl, sym a ∙ b)
words_once [] (v ∷ vs) bytes rest after (a, blank) ((next, first, more), _) = absurd (no_word_there v bytes next (subst IsBlank (sym a) blank) first)
words_once (w ∷ ws) [] bytes rest after ((next, first, more), _) (b, blank) = absurd (no_word_there w bytes next (subst IsBlank (sym b) blank) first)
words_once (w ∷ ws) (v ∷ vs) bytes rest after ((next, first, more), blank) ((next_, other, others), empty) =
    let one = first_once w v bytes next next_ first other in
    let all = words_once ws vs next_ rest after (subst (λ (b : List ℕ). StartWith ws b rest) one.1 more, blank) (others, empty) in
    (ap (λ (x : List ℕ). x ∷ ws) one.0 ∙ ap (λ (xs : List (List ℕ)). v ∷ xs) all.0, all.1)

-- no word is at the place of something that isn't a word
no_word_in_tail : (t tail bytes rest : List ℕ) → IsTail tail bytes → StartsWith t bytes rest → ⊥
no_word_in_tail t tail bytes rest is (w, f, e) = is.broken.1 w rest f

pub not_both_ways : (ws vs : List (List ℕ)) (bytes rest tail : List ℕ) → AreWords ws bytes rest → IsTaken (Broken vs tail) bytes → ⊥
not_both_ways [] [] bytes rest tail (a, blank) (after, b, is) = is.broken.0 (subst IsBlank (sym a ∙ b) blank)
not_both_ways [] (v ∷ vs) bytes rest tail (a, blank) (after, (next, first, more), is) = no_word_there v bytes next (subst IsBlank (sym a) blank) first
not_both_ways (w ∷ ws) [] bytes rest tail ((next, first, more), blank) (after, b, is) = no_word_in_tail w tail bytes next (subst (IsTail tail) (sym b) is) first
not_both_ways (w ∷ ws) (v ∷ vs) bytes rest tail ((next, first, more), blank) (after, (next_, other, others), is) =
    let one = first_once w v bytes next next_ first other in
    not_both_ways ws vs next_ rest tail (subst (λ (b : List ℕ). StartWith ws b rest) one.1 more, blank) (after, others, is)

tail_once : (t u bytes : List ℕ) → IsTail t bytes → IsTail u bytes → t ≡ u
tail_once t u bytes a b = gap_once a.gap b.gap t u a.is_gap b.is_gap a.at_word b.at_word (sym a.parts ∙ b.parts)

broken_once : (ws vs : List (List ℕ)) (bytes t u : List ℕ) → IsTaken (Broken ws t) bytes → IsTaken (Broken vs u) bytes → (ws ≡ vs) × (t ≡ u)
broken_once [] [] bytes t u (after, a, is) (next, b, also) = (refl, tail_once t u bytes (subst (IsTail t) (sym a) is) (subst (IsTail u) (sym b) also))
broken_once [] (v ∷ vs) bytes t u (after, a, is) (next, (n, first, more), also) = absurd (no_word_in_tail v t bytes n (subst (IsTail t) (sym a) is) first)
broken_once (w ∷ ws) [] bytes t u (after, (n, first, more), is) (next, b, also) = absurd (no_word_in_tail w u bytes n (subst (IsTail u) (sym b) also) first)
broken_once (w ∷ ws) (v ∷ vs) bytes t u (after, (n, first, more), is) (next, (m, other, others), also) =
    let one = first_once w v bytes n m first other in
    let all = broken_once ws vs m t u (after, subst (λ (b : List ℕ). StartWith ws b after) one.1 more, is) (next, others, also) in
    (ap (λ (x : List ℕ). x ∷ ws) one.0 ∙ ap (λ (xs : List (List ℕ)). v ∷ xs) all.0, all.1)

pub taken_once : (a b : Line) (bytes : List ℕ) → IsTaken a bytes → IsTaken b bytes → a ≡ b
taken_once (Worded ws rest) (Worded vs after) bytes is other = both ws vs rest after (words_once ws vs bytes rest after is other)
  where
    both : (ws vs : List (List ℕ)) (rest after : List ℕ) → (ws ≡ vs) × (rest ≡ after) → Worded ws rest ≡ Worded vs after
    both ws vs rest after (e, d) = cc
taken_once (Worded ws rest) (Broken vs tail) bytes is other = absurd (not_both_ways ws vs bytes rest tail is other)
taken_once (Broken ws tail) (Worded vs rest) bytes is other = absurd (not_both_ways vs ws bytes rest tail other is)
taken_once (Broken ws t) (Broken vs u) bytes is other = both ws vs t u (broken_once ws vs bytes t u is other)
  where
    both : (ws vs : List (List ℕ)) (t u : List ℕ) → (ws ≡ vs) × (t ≡ u) → Broken ws t ≡ Broken vs u
    both ws vs t u (e, d) = cc

pub all_once : (xs ys : List Line) (lines : List (List ℕ)) → AreTaken xs lines → AreTaken ys lines → xs ≡ ys
all_once [] [] lines a b = refl
all_once [] (y ∷ ys) [] a b = absurd b
all_once [] (y ∷ ys) (l ∷ lines) a b = absurd a
all_once (x ∷ xs) [] [] a b = absurd a
all_once (x ∷ xs) [] (l ∷ lines) a b = absurd b
all_once (x ∷ xs) (y ∷ ys) [] a b = absurd a
all_once (x ∷ xs) (y ∷ ys) (l ∷ lines) (a, more) (b, others) =
    ap (λ (z : Line). z ∷ xs) (taken_once x y l a b) ∙ ap (λ (zs : List Line). y ∷ zs) (all_once xs ys lines more others)

pub taken_front : (xs ys : List Line) (before left : List (List ℕ)) → AreTaken xs before → AreTaken ys (before ++ left) → xs ≡ take (length xs) ys
taken_front [] [] [] left a b = refl
taken_front [] (y ∷ ys) [] left a b = refl
taken_front [] ys (l ∷ before) left a b = absurd a
taken_front (x ∷ xs) ys [] left a b = absurd a
taken_front (x ∷ xs) [] (l ∷ before) left a b = absurd b
taken_front (x ∷ xs) (y ∷ ys) (l ∷ before) left (a, more) (b, others) =
    ap (λ (z : Line). z ∷ xs) (taken_once x y l a b) ∙ ap (λ (zs : List Line). y ∷ zs) (taken_front xs ys before left more others)
