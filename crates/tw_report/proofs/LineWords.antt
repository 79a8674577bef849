-- A line's words, from left to right.
use Rattle.tw_report.proofs.Names.{Bool, IsAtWord, List, [], ap, arith, cond, drop, false, filter, get_or, has_bytes, is_parting, length, onto_first, refl, slice_split, slice_split-cons_no, slice_split-cons_yes, suc, sym, take, true, with_word, word_length, words_in, ℕ, ◌-◌, ◌∙◌, ◌∷◌, ◌≡◌, ◌≤◌}
use Rattle.tw_lexer.proofs.Texts.{slice_tail}

-- ---- the gap

gap_first : (b : ℕ) (rest : List ℕ) → is_parting b ≡ true → words_in (b ∷ rest) ≡ words_in rest
gap_first b rest p = ap (filter has_bytes) (slice_split-cons_yes is_parting b rest p)

-- without its first byte
pub gap_shorter : (bytes rest : List ℕ) → 1 ≤ length rest → is_parting (get_or rest 0 0) ≡ true → words_in rest ≡ words_in bytes → words_in (take (length rest - 1) (drop 1 rest)) ≡ words_in bytes
gap_shorter bytes [] l p e = absurd (omega (arith, l))
gap_shorter bytes (b ∷ rest) l p e = ap words_in (slice_tail b rest) ∙ sym (gap_first b rest p) ∙ e

-- ---- the word

-- the first piece ends at the first gap, and what follows it has the other words
record Cut (bytes : List ℕ) : Type 0 where
  others : List (List ℕ)
  pieces : slice_split is_parting bytes ≡ take (word_length bytes) bytes ∷ others
  words : filter has_bytes others ≡ words_in (drop (word_length bytes) bytes)

cut : (bytes : List ℕ) → Cut bytes
cut [] = record { others = []; pieces = refl; words = refl }
cut (b ∷ rest) = by (is_parting b) refl (cut rest)
  where
    by : (p : Bool) → is_parting b ≡ p → Cut rest → Cut (b ∷ rest)
    by true p c = record {
      others = slice_split is_parting rest;
      pieces = rw p refl;
      words = rw p (sym (gap_first b rest p));
    }
    by false p c = record {
      others = c.others;
      pieces = rw p (ap (onto_first b) c.pieces);
      words = rw p c.words;
    }

pub length_short : (bytes : List ℕ) → word_length bytes ≤ length bytes
length_short [] = omega arith
length_short (b ∷ rest) = short (is_parting b) (length_short rest)
  where
    short : (p : Bool) → word_length rest ≤ length rest → cond p 0 (suc (word_length rest)) ≤ suc (length rest)
    short true h = omega arith
    short false h = omega (arith, h)

word_some : (b : ℕ) (rest : List ℕ) → is_parting b ≡ false → words_in (b ∷ rest) ≡ (b ∷ take (word_length rest) rest) ∷ words_in (drop (word_length rest) rest)
word_some b rest at = let c = cut rest in ap (filter has_bytes) (slice_split-cons_no is_parting b rest at ∙ ap (onto_first b) c.pieces) ∙ ap (λ (ws : List (List ℕ)). (b ∷ take (word_length rest) rest) ∷ ws) c.words

pub word_first : (bytes : List ℕ) → IsAtWord bytes → words_in bytes ≡ with_word (take (word_length bytes) bytes) (words_in (drop (word_length bytes) bytes))
word_first [] at = refl
word_first (b ∷ rest) at = word_some b rest at ∙ rw at refl

-- ---- as the code cuts

pub word_cut : (line rest front back : List ℕ) (n : ℕ) → words_in rest ≡ words_in line → IsAtWord rest → n ≡ word_length rest → front ≡ take n rest → back ≡ drop n rest → words_in line ≡ with_word front (words_in back)
word_cut line rest front back n same at is f b =
    sym same ∙ word_first rest at ∙ sym (ap (λ (w : List ℕ). with_word w (words_in back)) (f ∙ ap (λ (k : ℕ). take k rest) is) ∙ ap (λ (t : List ℕ). with_word (take (word_length rest) rest) (words_in t)) (b ∙ ap (λ (k : ℕ). drop k rest) is))
