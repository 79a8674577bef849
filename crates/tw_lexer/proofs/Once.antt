-- A line has only one first word, and only one list of words.
use Rattle.std.proofs.Common.{[], ◌≡◌, ℕ, Bool, true, false, List, ◌∷◌, ◌++◌, refl, sym, ap, subst, ◌∙◌}
use Rattle.std.specs.Prelude.{◌||◌}
use Rattle.std.specs.List.{AllByRecursion}
use Rattle.std.proofs.lemmas.Bool.{eqb-true}
use Rattle.tw_lexer.specs.Quoted.{EncodesQuoted}
use Rattle.tw_lexer.proofs.Insides.{head_is, one_text, tail_is}
use Rattle.tw_lexer.specs.Words.{AreFirstWords, Bare, IsAtEdge, IsAtEnd, IsAtWord, IsBare, IsBlank, IsBroken, IsBrokenLine, IsFirstWord, IsGap, IsLine, IsWord, Quoted, Word, is_comment_sign, is_edge, is_parting}

pub differ : true ≡ false → ⊥
differ e = cc

-- no word ends in these bytes
abbrev pub HasNoEdge : List ℕ → Type 0
HasNoEdge bytes = AllByRecursion (λ c. is_edge c ≡ false) bytes

-- ---- gaps

pub neither : (x y : Bool) → (x || y) ≡ false → (x ≡ false) × (y ≡ false)
neither true y e = absurd (differ e)
neither false y e = (refl, e)

pub no_edge : (b : ℕ) → is_edge b ≡ false → (is_parting b ≡ false) × (is_comment_sign b ≡ false)
no_edge b e = neither (is_parting b) (is_comment_sign b) e

-- only one text is after a gap
pub gap_once : (g h a b : List ℕ) → IsGap g → IsGap h → IsAtWord a → IsAtWord b → g ++ a ≡ h ++ b → a ≡ b
gap_once [] [] a b _ _ _ _ e = e
gap_once [] (c ∷ h) a b _ gap at _ e = absurd (differ (sym gap.0 ∙ subst IsAtWord e at))
gap_once (c ∷ g) [] a b gap _ _ at e = absurd (differ (sym gap.0 ∙ subst IsAtWord (sym e) at))
gap_once (c ∷ g) (d ∷ h) a b gap other at here e = gap_once g h a b gap.1 other.1 at here (tail_is c d (g ++ a) (h ++ b) e)

pub end_here : (bytes : List ℕ) → IsAtEnd bytes → IsAtWord bytes
end_here [] end = tt
end_here (b ∷ rest) end = subst (λ (c : ℕ). is_parting c ≡ false) (sym (eqb-true b 59 end)) refl

-- ---- words

abbrev IsHere : List ℕ → Type 0
IsHere bytes = IsAtWord bytes × (IsAtEnd bytes → ⊥)

-- a word begins with no separator and no comment sign
pub word_here : (word : Word) (text rest : List ℕ) → IsWord word text → IsAtWord (text ++ rest) × (IsAtEnd (text ++ rest) → ⊥)
word_here (Bare []) text rest is = absurd is.0
word_here (Bare (b ∷ bs)) text rest (bare, same) =
    let first = no_edge b bare.1.0 in
    subst (λ (t : List ℕ). IsHere (t ++ rest)) (sym same) (first.0, λ end. differ (sym end ∙ first.1))
word_here (Quoted q) text rest (inside, is, same) = subst (λ (t : List ℕ). IsHere (t ++ rest)) (sym same) (refl, λ end. differ (sym end))

pub bare_clean : (word : List ℕ) → IsBare word → HasNoEdge word
bare_clean [] bare = absurd bare
bare_clean (b ∷ bs) bare = bare.1

clean_once : (t u a b : List ℕ) → HasNoEdge t → HasNoEdge u → IsAtEdge a → IsAtEdge b → t ++ a ≡ u ++ b → (t ≡ u) × (a ≡ b)
clean_once [] [] a b _ _ _ _ e = (refl, e)
clean_once [] (c ∷ u) a b _ clean at _ e = absurd (differ (sym (subst IsAtEdge e at) ∙ clean.0))
clean_once (c ∷ t) [] a b clean _ _ at e = absurd (differ (sym (subst IsAtEdge (sym e) at) ∙ clean.0))
clean_once (c ∷ t) (d ∷ u) a b clean other at here e =
    let more = clean_once t u a b clean.1 other.1 at here (tail_is c d (t ++ a) (u ++ b) e) in
    (ap (λ (x : ℕ). x ∷ t) (head_is c d (t ++ a) (u ++ b) e) ∙ ap (λ (x : List ℕ). d ∷ x) more.0, more.1)

-- a bare word doesn't begin with a quote
bare_unquoted : (x q t u a b : List ℕ) → IsBare x → t ≡ x → EncodesQuoted q u → t ++ a ≡ u ++ b → ⊥
bare_unquoted [] q t u a b bare _ _ _ = bare
bare_unquoted (c ∷ x) q t u a b bare same (inside, is, quotes) e =
    bare.0 (head_is c 34 (x ++ a) ((inside ++ 34 ∷ []) ++ b) (ap (λ (y : List ℕ). y ++ a) (sym same) ∙ e ∙ ap (λ (y : List ℕ). y ++ b) quotes))

text_once : (w v : Word) (t u a b : List ℕ) → IsWord w t → IsWord v u → IsAtEdge a → IsAtEdge b → t ++ a ≡ u ++ b → (w ≡ v) × (a ≡ b)
text_once (Bare x) (Bare y) t u a b (bare, same) (other, equal) at here e =
    let one = clean_once x y a b (bare_clean x bare) (bare_clean y other) at here (ap (λ (z : List ℕ). z ++ a) (sym same) ∙ e ∙ ap (λ (z : List ℕ). z ++ b) equal) in
    (ap (λ (z : List ℕ). Bare z) one.0, one.1)
text_once (Bare x) (Quoted q) t u a b (bare, same) quoted at here e = absurd (bare_unquoted x q t u a b bare same quoted e)
text_once (Quoted q) (Bare y) t u a b quoted (bare, same) at here e = absurd (bare_unquoted y q u t b a bare same quoted (sym e))
text_once (Quoted q) (Quoted p) t u a b quoted other at here e =
    let one = one_text q p (t ++ a) a b (t, quoted, refl) (u, other, e) in
    (ap (λ (z : List ℕ). Quoted z) one.0, one.1)

pub first_word_once : (w v : Word) (bytes rest after : List ℕ) → IsFirstWord w bytes rest → IsFirstWord v bytes after → (w ≡ v) × (rest ≡ after)
first_word_once w v bytes rest after f g =
    let here = (word_here w f.text rest f.is_word).0 in
    let there = (word_here v g.text after g.is_word).0 in
    text_once w v f.text g.text rest after f.is_word g.is_word f.edge g.edge (gap_once f.gap g.gap (f.text ++ rest) (g.text ++ after) f.is_gap g.is_gap here there (sym f.parts ∙ g.parts))

pub blank_no_word : (w : Word) (bytes rest : List ℕ) → IsBlank bytes → IsFirstWord w bytes rest → ⊥
blank_no_word w bytes rest b f =
    let here = word_here w f.text rest f.is_word in
    here.1 (subst IsAtEnd (gap_once b.gap f.gap b.rest (f.text ++ rest) b.is_gap f.is_gap (end_here b.rest b.is_end) here.0 (sym b.parts ∙ f.parts)) b.is_end)

-- ---- lines

-- the first word of a line, and the line after it
pub line_rest : (w v : Word) (ws : List Word) (line rest : List ℕ) → IsLine (w ∷ ws) line → IsFirstWord v line rest → (w ≡ v) × IsLine ws rest
line_rest w v ws line rest (end, (after, first, more), blank) other =
    let one = first_word_once w v line after rest first other in
    (one.0, (end, subst (λ (bytes : List ℕ). AreFirstWords ws bytes end) one.1 more, blank))

pub line_blank : (line : List ℕ) → IsLine [] line → IsBlank line
line_blank line (end, same, blank) = subst IsBlank (sym same) blank

pub line_once : (ws vs : List Word) (line : List ℕ) → IsLine ws line → IsLine vs line → ws ≡ vs
line_once [] [] line l k = refl
line_once [] (v ∷ vs) line l (end, (after, first, more), blank) = absurd (blank_no_word v line after (line_blank line l) first)
line_once (w ∷ ws) [] line (end, (after, first, more), blank) k = absurd (blank_no_word w line after (line_blank line k) first)
line_once (w ∷ ws) (v ∷ vs) line l (end, (after, first, more), blank) =
    let one = line_rest w v ws line after l first in
    ap (λ (x : Word). x ∷ ws) one.0 ∙ ap (λ (xs : List Word). v ∷ xs) (line_once ws vs after one.1 (end, more, blank))

-- the first word of a broken line, and the broken line after it
pub broken_rest : (w v : Word) (ws : List Word) (line rest : List ℕ) → IsBrokenLine (w ∷ ws) line → IsFirstWord v line rest → (w ≡ v) × IsBrokenLine ws rest
broken_rest w v ws line rest (end, (after, first, more), broken) other =
    let one = first_word_once w v line after rest first other in
    (one.0, (end, subst (λ (bytes : List ℕ). AreFirstWords ws bytes end) one.1 more, broken))

pub broken_here : (line : List ℕ) → IsBrokenLine [] line → IsBroken line
broken_here line (end, same, broken) = subst IsBroken (sym same) broken

pub broken_no_line : (ws vs : List Word) (line : List ℕ) → IsBrokenLine ws line → IsLine vs line → ⊥
broken_no_line [] [] line l k = (broken_here line l).0 (line_blank line k)
broken_no_line [] (v ∷ vs) line l (end, (after, first, more), blank) = (broken_here line l).1 v after first
broken_no_line (w ∷ ws) [] line (end, (after, first, more), broken) k = blank_no_word w line after (line_blank line k) first
broken_no_line (w ∷ ws) (v ∷ vs) line l (end, (after, first, more), blank) = broken_no_line ws vs after (broken_rest w v ws line after l first).1 (end, more, blank)

-- a word more
pub first_words_more : (ws : List Word) (w : Word) (line bytes rest : List ℕ) → AreFirstWords ws line bytes → IsFirstWord w bytes rest → AreFirstWords (ws ++ w ∷ []) line rest
first_words_more [] w line bytes rest are first = (rest, subst (λ (b : List ℕ). IsFirstWord w b rest) (sym are) first, refl)
first_words_more (v ∷ vs) w line bytes rest (after, is, more) first = (after, is, first_words_more vs w after bytes rest more first)
