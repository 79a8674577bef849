-- Each line has words.
use Rattle.tw_symbols.proofs.TextNames.{Bool, Broken, IsAfterGap, IsAtWord, IsBlank, IsBroken, IsFirstWord, IsGap, IsTaken, Line, List, None, Quoted, Some, Word, Worded, [], ap, arith, eqb, eqb-true, false, inl, inr, is_at_edge, is_parting, length, nat_tests, refl, subst, suc, sym, true, zero, ℕ, ◌++◌, ◌∙◌, ◌∷◌, ◌≡◌, ◌≢◌, ◌≤◌, ◌⊎◌}
use Rattle.tw_lexer.proofs.FirstWords.{after_gap, bare_first, quoted_first, unended_broken, unread_broken}
use Rattle.tw_lexer.proofs.Insides.{begins_read, never_both, read_begins}
use Rattle.tw_lexer.specs.Quoted.{BeginsQuoted}
use Rattle.tw_lexer.specs.declared.escape.Escape.TheVariants.{Nothing}
use Rattle.tw_lexer.specs.declared.word.Next.TheVariants as next
use Rattle.tw_lexer.specs.reading.Inside.{Found, inside_from}
use Rattle.tw_symbols.proofs.Taking.{shorter}

abbrev HasFirst : List ℕ → Type 0
HasFirst bytes = (word : Word) × (after : List ℕ) × IsFirstWord word bytes after

-- ---- after the gap

gap_of : (bytes : List ℕ) → (rest : List ℕ) × IsAfterGap bytes rest
gap_of [] = ([], record { gap = []; parts = refl; is_gap = tt; at_word = tt })
gap_of (b ∷ bytes) = by (is_parting b) refl (gap_of bytes)
  where
    by : (t : Bool) → is_parting b ≡ t → (rest : List ℕ) × IsAfterGap bytes rest → (rest : List ℕ) × IsAfterGap (b ∷ bytes) rest
    by true e (rest, a) = (rest, record { gap = b ∷ a.gap; parts = ap (λ (x : List ℕ). b ∷ x) a.parts; is_gap = (e, a.is_gap); at_word = a.at_word })
    by false e found = (b ∷ bytes, record { gap = []; parts = refl; is_gap = tt; at_word = e })

word_past : (gap rest after : List ℕ) (word : Word) → IsGap gap → IsFirstWord word rest after → IsFirstWord word (gap ++ rest) after
word_past [] rest after word is first = first
word_past (b ∷ gap) rest after word is first =
    let f = word_past gap rest after word is.1 first in
    record { gap = b ∷ f.gap; text = f.text; parts = ap (λ (x : List ℕ). b ∷ x) f.parts; is_gap = (is.0, f.is_gap); is_word = f.is_word; edge = f.edge }

apart : (a b : ℕ) → eqb a b ≡ false → a ≢ b
apart a b e same = grind (arith, nat_tests)

quoted_here : (rest : List ℕ) (found : Found) → inside_from Nothing rest ≡ found → IsBroken (34 ∷ rest) ⊎ HasFirst (34 ∷ rest)
quoted_here rest None e = inl (unread_broken (34 ∷ rest) refl (λ text after begins. never_both (text, after) (sym e ∙ (begins_read text 34 rest after begins).1)))
quoted_here rest (Some (text, after)) e = by (is_at_edge after) refl
  where
    begins : BeginsQuoted text (34 ∷ rest) after
    begins = read_begins text rest after e

    by : (t : Bool) → is_at_edge after ≡ t → IsBroken (34 ∷ rest) ⊎ HasFirst (34 ∷ rest)
    by true edge = inr (Quoted text, after, quoted_first (34 ∷ rest) text after begins edge)
    by false edge = inl (unended_broken (34 ∷ rest) text after refl begins edge)

here : (bytes : List ℕ) → IsAtWord bytes → IsBlank bytes ⊎ (IsBroken bytes ⊎ HasFirst bytes)
here [] at = inl (record { gap = []; rest = []; parts = refl; is_gap = tt; is_end = tt })
here (b ∷ rest) at = comment (eqb b 59) refl
  where
    quote : (t : Bool) → eqb b 34 ≡ t → eqb b 59 ≡ false → IsBlank (b ∷ rest) ⊎ (IsBroken (b ∷ rest) ⊎ HasFirst (b ∷ rest))
    quote true q c = inr (subst (λ (x : ℕ). IsBroken (x ∷ rest) ⊎ HasFirst (x ∷ rest)) (sym (eqb-true b 34 q)) (quoted_here rest (inside_from Nothing rest) refl))
    quote false q c = inr (inr (_, _, bare_first (b ∷ rest) (omega arith) at (apart b 59 c) (apart b 34 q)))

    comment : (t : Bool) → eqb b 59 ≡ t → IsBlank (b ∷ rest) ⊎ (IsBroken (b ∷ rest) ⊎ HasFirst (b ∷ rest))
    comment true c = inl (record { gap = []; rest = b ∷ rest; parts = refl; is_gap = tt; is_end = c })
    comment false c = quote (eqb b 34) refl c

-- ---- the words of a line

abbrev HasLine : List ℕ → Type 0
HasLine bytes = (t : Line) × IsTaken t bytes

one_more : (word : Word) (bytes after : List ℕ) → IsFirstWord word bytes after → HasLine after → HasLine bytes
one_more word bytes after f (Worded words rest, (more, blank)) = (Worded (f.text ∷ words) rest, ((after, (word, f, refl), more), blank))
one_more word bytes after f (Broken words tail, (end, more, is)) = (Broken (f.text ∷ words) tail, (end, (after, (word, f, refl), more), is))

-- the line's words, if it begins with none
begin : (bytes : List ℕ) → HasLine bytes ⊎ HasFirst bytes
begin bytes = by (gap_of bytes)
  where
    by : (rest : List ℕ) × IsAfterGap bytes rest → HasLine bytes ⊎ HasFirst bytes
    by (rest, a) = elim (here rest a.at_word) [
      | inl blank ↦ inl (Worded [] bytes, (refl, after_gap next.End bytes rest a blank))
      | inr some ↦ elim some [
        | inl broken ↦ inl (Broken [] rest, (bytes, refl, record { broken = after_gap next.Broken bytes rest a broken; gap = a.gap; parts = a.parts; is_gap = a.is_gap; at_word = a.at_word }))
        | inr f ↦ inr (f.0, f.1, subst (λ (x : List ℕ). IsFirstWord f.0 x f.1) (sym a.parts) (word_past a.gap rest f.1 f.0 a.is_gap f.2))
      ]
    ]

line_within : (n : ℕ) (bytes : List ℕ) → length bytes ≤ n → HasLine bytes
line_within zero bytes short = elim (begin bytes) [ inl line ↦ line | inr f ↦ absurd (omega (arith, short, shorter f.0 bytes f.1 f.2)) ]
line_within (suc n) bytes short = elim (begin bytes) [ inl line ↦ line | inr f ↦ one_more f.0 bytes f.1 f.2 (line_within n f.1 (omega (arith, short, shorter f.0 bytes f.1 f.2))) ]

pub line_of : (bytes : List ℕ) → (t : Line) × IsTaken t bytes
line_of bytes = line_within (length bytes) bytes (omega arith)
