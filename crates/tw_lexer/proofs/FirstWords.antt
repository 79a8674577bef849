-- The first word, as the reader finds it.
use Rattle.std.proofs.Common.{[], ◌≡◌, ◌≢◌, ℕ, suc, ◌-◌, ◌≤◌, Bool, true, false, cond, List, ◌∷◌, ◌++◌, length, get_or, take, drop, refl, sym, ap, subst, ◌∙◌, append_assoc, arith}
use Rattle.std.specs.Prelude.{Err, IfOk, Ok, Result}
use Rattle.std.proofs.lemmas.Bool.Decides.{nat_tests}
use Rattle.std.proofs.lemmas.List.{take-append-drop}
use Rattle.tw_lexer.specs.Quoted.{BeginsQuoted}
use Rattle.tw_lexer.proofs.Insides.{one_text, head_is}
use Rattle.tw_lexer.specs.declared.word.Next as nexts
use Rattle.tw_lexer.specs.declared.word.Next.TheVariants as next
use Rattle.tw_lexer.specs.Seen.{seen}
use Rattle.tw_lexer.specs.reading.Next.{IsAfterGap, IsNext, bare_length, is_at_edge}
use Rattle.tw_lexer.specs.Words.{Bare, IsAtEdge, IsAtEnd, IsAtWord, IsBare, IsBlank, IsBroken, IsFirstWord, IsGap, IsWord, Quoted, Word, is_comment_sign, is_edge, is_parting}
use Rattle.tw_lexer.proofs.Once.{HasNoEdge, differ, end_here, gap_once, word_here}
use Rattle.tw_lexer.proofs.Texts.{slice_tail}

-- ---- the gap

abbrev HasGap : List ℕ → List ℕ → Type 0
HasGap bytes rest = (gap : List ℕ) × IsGap gap × (bytes ≡ gap ++ rest)

gap_more : (gap : List ℕ) (b : ℕ) → IsGap gap → is_parting b ≡ true → IsGap (gap ++ b ∷ [])
gap_more [] b is p = (p, tt)
gap_more (c ∷ gap) b is p = (is.0, gap_more gap b is.1 p)

pub gap_grows : (bytes rest : List ℕ) → 1 ≤ length rest → is_parting (get_or rest 0 0) ≡ true → HasGap bytes rest → HasGap bytes (take (length rest - 1) (drop 1 rest))
gap_grows bytes [] l p g = absurd (omega (arith, l))
gap_grows bytes (b ∷ rest) l p (gap, is, parts) =
    subst (HasGap bytes) (sym (slice_tail b rest)) (gap ++ b ∷ [], gap_more gap b is p, parts ∙ sym (append_assoc gap (b ∷ []) rest))

-- a word after a gap is the first word
gap_joins : (g h : List ℕ) → IsGap g → IsGap h → IsGap (g ++ h)
gap_joins [] h is other = other
gap_joins (b ∷ g) h is other = (is.0, gap_joins g h is.1 other)

after_blank : (bytes rest : List ℕ) → IsAfterGap bytes rest → IsBlank rest → IsBlank bytes
after_blank bytes rest a b = record {
  gap = a.gap ++ b.gap;
  rest = b.rest;
  parts = a.parts ∙ ap (λ (x : List ℕ). a.gap ++ x) b.parts ∙ sym (append_assoc a.gap b.gap b.rest);
  is_gap = gap_joins a.gap b.gap a.is_gap b.is_gap;
  is_end = b.is_end;
}

after_word : (word : Word) (bytes rest after : List ℕ) → IsAfterGap bytes rest → IsFirstWord word rest after → IsFirstWord word bytes after
after_word word bytes rest after a f = record {
  gap = a.gap ++ f.gap;
  text = f.text;
  parts = a.parts ∙ ap (λ (x : List ℕ). a.gap ++ x) f.parts ∙ sym (append_assoc a.gap f.gap (f.text ++ after));
  is_gap = gap_joins a.gap f.gap a.is_gap f.is_gap;
  is_word = f.is_word;
  edge = f.edge;
}

-- and the first word is after the gap
blank_after : (bytes rest : List ℕ) → IsAfterGap bytes rest → IsBlank bytes → IsBlank rest
blank_after bytes rest a b = record {
  gap = [];
  rest = rest;
  parts = refl;
  is_gap = tt;
  is_end = subst IsAtEnd (gap_once b.gap a.gap b.rest rest b.is_gap a.is_gap (end_here b.rest b.is_end) a.at_word (sym b.parts ∙ a.parts)) b.is_end;
}

word_after : (word : Word) (bytes rest after : List ℕ) → IsAfterGap bytes rest → IsFirstWord word bytes after → IsFirstWord word rest after
word_after word bytes rest after a f = record {
  gap = [];
  text = f.text;
  parts = gap_once a.gap f.gap rest (f.text ++ after) a.is_gap f.is_gap a.at_word (word_here word f.text after f.is_word).0 (sym a.parts ∙ f.parts);
  is_gap = tt;
  is_word = f.is_word;
  edge = f.edge;
}

pub after_gap : (found : nexts.Next) (bytes rest : List ℕ) → IsAfterGap bytes rest → IsNext found rest → IsNext found bytes
after_gap next.End bytes rest a is = after_blank bytes rest a is
after_gap next.Broken bytes rest a is = (λ blank. is.0 (blank_after bytes rest a blank), λ word after first. is.1 word after (word_after word bytes rest after a first))
after_gap (next.Found word after) bytes rest a is = after_word (seen word) bytes rest after.now a is

-- ---- if a word is first, or a quote

word_now : (word : Word) (bytes rest : List ℕ) → IsAtWord bytes → IsFirstWord word bytes rest → (text : List ℕ) × (bytes ≡ text ++ rest) × IsWord word text × IsAtEdge rest
word_now word bytes rest at f =
    (f.text, gap_once [] f.gap bytes (f.text ++ rest) tt f.is_gap at (word_here word f.text rest f.is_word).0 f.parts, f.is_word, f.edge)

quote_here : (bytes : List ℕ) → get_or bytes 0 0 ≡ 34 → (more : List ℕ) × (bytes ≡ 34 ∷ more)
quote_here [] q = absurd (omega (arith, q))
quote_here (b ∷ bytes) q = (bytes, ap (λ (c : ℕ). c ∷ bytes) q)

quote_at : (bytes : List ℕ) → get_or bytes 0 0 ≡ 34 → IsAtWord bytes
quote_at bytes q = let h = quote_here bytes q in subst IsAtWord (sym h.1) refl

quote_no_blank : (bytes : List ℕ) → get_or bytes 0 0 ≡ 34 → IsBlank bytes → ⊥
quote_no_blank bytes q b =
    let h = quote_here bytes q in
    let end = gap_once b.gap [] b.rest bytes b.is_gap tt (end_here b.rest b.is_end) (quote_at bytes q) (sym b.parts) in
    differ (sym (subst IsAtEnd (end ∙ h.1) b.is_end))

text_quoted : (word : Word) (bytes text rest : List ℕ) → get_or bytes 0 0 ≡ 34 → bytes ≡ text ++ rest → IsWord word text → (q : List ℕ) × BeginsQuoted q bytes rest
text_quoted (Bare []) bytes text rest q parts is = absurd is.0
text_quoted (Bare (b ∷ bs)) bytes text rest q parts (bare, same) =
    let h = quote_here bytes q in
    absurd (bare.0 (head_is b 34 (bs ++ rest) h.0 (ap (λ (t : List ℕ). t ++ rest) (sym same) ∙ sym parts ∙ h.1)))
text_quoted (Quoted text) bytes word rest q parts is = (text, (word, is, parts))

quote_word : (word : Word) (bytes rest : List ℕ) → get_or bytes 0 0 ≡ 34 → IsFirstWord word bytes rest → (q : List ℕ) × BeginsQuoted q bytes rest × IsAtEdge rest
quote_word word bytes rest q f =
    let now = word_now word bytes rest (quote_at bytes q) f in
    let text = text_quoted word bytes now.0 rest q now.1 now.2 in
    (text.0, text.1, now.3)

test_edge : (rest : List ℕ) → is_at_edge rest ≡ true → IsAtEdge rest
test_edge [] e = tt
test_edge (b ∷ rest) e = e

edge_test : (rest : List ℕ) → IsAtEdge rest → is_at_edge rest ≡ true
edge_test [] e = refl
edge_test (b ∷ rest) e = e

-- there is no quoted text
pub unread_broken : (bytes : List ℕ) → get_or bytes 0 0 ≡ 34 → ((text rest : List ℕ) → BeginsQuoted text bytes rest → ⊥) → IsBroken bytes
unread_broken bytes q none = (λ blank. quote_no_blank bytes q blank, λ word rest first. let text = quote_word word bytes rest q first in none text.0 rest text.1)

-- there is one, and no word ends after it
pub unended_broken : (bytes text rest : List ℕ) → get_or bytes 0 0 ≡ 34 → BeginsQuoted text bytes rest → is_at_edge rest ≡ false → IsBroken bytes
unended_broken bytes text rest q begins e = (λ blank. quote_no_blank bytes q blank, λ word after first. by word after (quote_word word bytes after q first))
  where
    by : (word : Word) (after : List ℕ) → (other : List ℕ) × BeginsQuoted other bytes after × IsAtEdge after → ⊥
    by word after (other, is, edge) = differ (sym (edge_test rest (subst IsAtEdge (sym (one_text text other bytes rest after begins is).1) edge)) ∙ e)

pub quoted_first : (bytes text rest : List ℕ) → BeginsQuoted text bytes rest → is_at_edge rest ≡ true → IsFirstWord (Quoted text) bytes rest
quoted_first bytes text rest (word, is, parts) e = record { gap = []; text = word; parts = parts; is_gap = tt; is_word = is; edge = test_edge rest e }

-- ---- a bare word

clean_step : (b : ℕ) (rest : List ℕ) (t : Bool) → is_edge b ≡ t → HasNoEdge (take (bare_length rest) rest) → HasNoEdge (take (cond t 0 (suc (bare_length rest))) (b ∷ rest))
clean_step b rest true e before = tt
clean_step b rest false e before = (e, before)

clean : (bytes : List ℕ) → HasNoEdge (take (bare_length bytes) bytes)
clean [] = tt
clean (b ∷ rest) = clean_step b rest (is_edge b) refl (clean rest)

edge_step : (b : ℕ) (rest : List ℕ) (t : Bool) → is_edge b ≡ t → IsAtEdge (drop (bare_length rest) rest) → IsAtEdge (drop (cond t 0 (suc (bare_length rest))) (b ∷ rest))
edge_step b rest true e before = e
edge_step b rest false e before = before

edge : (bytes : List ℕ) → IsAtEdge (drop (bare_length bytes) bytes)
edge [] = tt
edge (b ∷ rest) = edge_step b rest (is_edge b) refl (edge rest)

pub bare_short : (bytes : List ℕ) → bare_length bytes ≤ length bytes
bare_short [] = omega arith
bare_short (b ∷ rest) = short (is_edge b) (bare_short rest)
  where
    short : (t : Bool) → bare_length rest ≤ length rest → cond t 0 (suc (bare_length rest)) ≤ suc (length rest)
    short true h = omega arith
    short false h = omega (arith, h)

not_comment : (b : ℕ) → b ≢ 59 → is_comment_sign b ≡ false
not_comment b e = grind (arith, nat_tests)

is_no_edge : (b : ℕ) → is_parting b ≡ false → is_comment_sign b ≡ false → is_edge b ≡ false
is_no_edge b p q = rw (p, q) refl

is_bare : (b : ℕ) (rest : List ℕ) (t : Bool) → is_edge b ≡ t → t ≡ false → b ≢ 34 → HasNoEdge (take (bare_length rest) rest) → IsBare (take (cond t 0 (suc (bare_length rest))) (b ∷ rest))
is_bare b rest true e f q c = absurd (differ f)
is_bare b rest false e f q c = (q, (e, c))

pub bare_first : (bytes : List ℕ) → 1 ≤ length bytes → IsAtWord bytes → get_or bytes 0 0 ≢ 59 → get_or bytes 0 0 ≢ 34 → IsFirstWord (Bare (take (bare_length bytes) bytes)) bytes (drop (bare_length bytes) bytes)
bare_first [] l at c q = absurd (omega (arith, l))
bare_first (b ∷ rest) l at c q = record {
  gap = [];
  text = take (bare_length (b ∷ rest)) (b ∷ rest);
  parts = sym (take-append-drop (bare_length (b ∷ rest)) (b ∷ rest));
  is_gap = tt;
  is_word = (is_bare b rest (is_edge b) refl (is_no_edge b at (not_comment b c)) q (clean rest), refl);
  edge = edge (b ∷ rest);
}

-- ---- the rest is shorter

pub after_gap_read : {E : Type 0} (read : Result nexts.Next E) (bytes rest : List ℕ) → IsAfterGap bytes rest → IfOk read (λ found. IsNext found rest) → IfOk read (λ found. IsNext found bytes)
after_gap_read (Ok found) bytes rest a is = after_gap found bytes rest a is
after_gap_read (Err e) bytes rest a is = is
