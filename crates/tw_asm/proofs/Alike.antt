-- Statements of the same words differ only in skips.
use Rattle.tw_asm.proofs.AsmNames.{Bare, Code, EncodeParts, Encodes, EncodesDigits, Goals, Head, Label, List, OfVersion, ParserState, Registers, Statement, Version, Word, [], after, ap, append_cancel_right, codes, one_size, refl, statement_parts, subst, sym, version_parts, ℕ, ◌++◌, ◌∙◌, ◌∷◌, ◌≡◌}
use Rattle.tw_asm.proofs.Once.{begins, class_of, same_class, same_word}
use Rattle.tw_asm.proofs.Rows.{different}

abbrev pub AreAlike : Statement → Statement → Type 0
AreAlike (OfVersion n) (OfVersion m) = n ≡ m
AreAlike (Head kind params) (Head k ps) = Unit {0}
AreAlike (Registers registers) (Registers others) = Unit {0}
AreAlike (Label name) (Label other) = name ≡ other
AreAlike (Code i) (Code j) = Unit {0}
AreAlike s t = ⊥

-- the words of the version's line
version_words : (G : Goals) (n : ℕ) (words : List Word) → EncodeParts G (version_parts n) words → (digits : List ℕ) × EncodesDigits n digits × (words ≡ Bare (codes "version") ∷ Bare digits ∷ [])
version_words G n words (first, others, cut, is, (second, none, rest, (digits, spells, has), nothing)) =
    (digits, spells, cut ∙ (ap (λ (ws : List Word). ws ++ others) is ∙ ap (λ (ws : List Word). Bare (codes "version") ∷ ws) (rest ∙ (ap (λ (ws : List Word). ws ++ none) has ∙ ap (λ (ws : List Word). Bare digits ∷ ws) nothing))))

one_version : (G H : Goals) (n m : ℕ) (words : List Word) → EncodeParts G (version_parts n) words → EncodeParts H (version_parts m) words → n ≡ m
one_version G H n m words a b =
    let x = version_words G n words a in
    let y = version_words H m words b in
    one_size n m y.0 (subst (EncodesDigits n) (digits_are x.0 y.0 (sym x.2 ∙ y.2)) x.1) y.1
  where
    digits_are : (c d : List ℕ) → Bare (codes "version") ∷ Bare c ∷ [] ≡ Bare (codes "version") ∷ Bare d ∷ [] → c ≡ d
    digits_are c d e = cc

pub alike : {version : Version} (G H : Goals) (s t : Statement) (words : List Word) → Encodes version G s words → Encodes version H t words → AreAlike s t
alike G H s t words a b = by s t a.parts b.parts (same_class G H s t words a b) (same_word G H s t words a b)
  where
    by : (u v : Statement) → EncodeParts G (statement_parts u) words → EncodeParts H (statement_parts v) words → class_of u ≡ class_of v → (begins u).word ≡ (begins v).word → AreAlike u v
    by (OfVersion n) (OfVersion m) p q class word = one_version G H n m words p q
    by (Head kind params) (Head k ps) p q class word = tt
    by (Registers registers) (Registers others) p q class word = tt
    by (Label name) (Label other) p q class word = append_cancel_right name other (codes ":") word
    by (Code i) (Code j) p q class word = tt
    by u v p q class word = different (class_of u) (class_of v) class refl

pub after_alike : (number : ℕ) (s t : Statement) (x : ParserState) → AreAlike s t → after number s x ≡ after number t x
after_alike number (OfVersion n) (OfVersion m) x a = ap (λ (k : ℕ). after number (OfVersion k) x) a
after_alike number (Head kind params) (Head k ps) x a = refl
after_alike number (Registers registers) (Registers others) x a = refl
after_alike number (Label name) (Label other) x a = ap (λ (n : List ℕ). after number (Label n) x) a
after_alike number (Code i) (Code j) x a = refl
after_alike number s t x a = absurd a
