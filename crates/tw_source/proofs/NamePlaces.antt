-- The only place of a name in a line, and its word.
use Rattle.std.proofs.Common.{◌≡◌, ◌<◌, ◌≤◌, ◌+◌, ◌-◌, ℕ, false, true, List, [], ◌∷◌, ◌++◌, Option, Some, None, MatchOption, arith, below_more, length, refl, sym, ap, ◌∙◌}
use Rattle.std.specs.List.{list_any}
use Rattle.std.specs.Option.{is_some}
use Rattle.std.proofs.lemmas.List.{length-append}
use Rattle.tw_lexer.proofs.Once.{differ, first_word_once, first_words_more, word_here}
use Rattle.tw_lexer.specs.Words.{AreFirstWords, IsFirstWord, IsWord, Word}
use Rattle.tw_source.specs.NamePlace.{IsOnly, is_at, parts_names}

-- ---- at the indices before one

-- holds if this is the only index before `count` at which the word is, or there is none
abbrev pub IsSoFar : List ℕ → List ℕ → ℕ → Option ℕ → Type 0
IsSoFar line word count None = (other : ℕ) → other < count → is_at line word other ≡ true → ⊥
IsSoFar line word count (Some index) = (index < count) × (is_at line word index ≡ true) × ((other : ℕ) → other < count → is_at line word other ≡ true → other ≡ index)

pub none_here : (line word : List ℕ) (i : ℕ) (found : Option ℕ) → is_at line word i ≡ false → IsSoFar line word i found → IsSoFar line word (i + 1) found
none_here line word i None absent so = below_more (λ (k : ℕ). is_at line word k ≡ true → ⊥) i so (λ e. differ (sym e ∙ absent))
none_here line word i (Some index) absent (low, here, only) =
    (omega (arith, low), here, below_more (λ (k : ℕ). is_at line word k ≡ true → k ≡ index) i only (λ e. absurd (differ (sym e ∙ absent))))

pub one_here : (line word : List ℕ) (i : ℕ) (found : Option ℕ) → is_some found ≡ false → is_at line word i ≡ true → IsSoFar line word i found → IsSoFar line word (i + 1) (Some i)
one_here line word i None none e so =
    (omega arith, e, below_more (λ (k : ℕ). is_at line word k ≡ true → k ≡ i) i (λ k low is. absurd (so k low is)) (λ is. refl))
one_here line word i (Some index) none e so = absurd (differ none)

pub two_here : (line word : List ℕ) (i : ℕ) (found : Option ℕ) → is_some found ≡ true → i < length line → is_at line word i ≡ true → IsSoFar line word i found → (index : ℕ) → IsOnly line word index → ⊥
two_here line word i None some low e so index only = differ (sym some)
two_here line word i (Some first) some low e (before, here, so) index only =
    let this : i ≡ index = only.nowhere_else i low e in
    let that : first ≡ index = only.nowhere_else first (omega (arith, before, low)) here in
    omega (arith, this, that, before)

-- ---- in the whole line

pub parted_nowhere : (line word : List ℕ) → list_any parts_names word ≡ true → (index : ℕ) → IsOnly line word index → ⊥
parted_nowhere line word parted index only = differ (sym parted ∙ only.whole)

pub all_seen : (line word : List ℕ) (count : ℕ) (found : Option ℕ) → list_any parts_names word ≡ false → count ≡ length line → IsSoFar line word count found → MatchOption found ((index : ℕ) → IsOnly line word index → ⊥) (IsOnly line word)
all_seen line word count None whole all so = λ index only. so index (omega (arith, only.inside, all)) only.here
all_seen line word count (Some first) whole all (before, here, so) = record {
  whole = whole;
  inside = omega (arith, before, all);
  here = here;
  nowhere_else = λ other low is. so other (omega (arith, low, all)) is;
}

-- ---- words

-- the first word after these doesn't end before the index or at it, so none does
pub ends_later : (line after next : List ℕ) (index : ℕ) (word : Word) → IsFirstWord word after next → index < length line - length next → (other : Word) (rest : List ℕ) → IsFirstWord other after rest → index + length rest < length line
ends_later line after next index word first low other rest is =
    let same : length next ≡ length rest = ap length (first_word_once word other after next rest first is).1 in
    omega (arith, low, same)

-- holds if this many words are first in the line, and this follows them
abbrev pub Passed : List ℕ → List ℕ → ℕ → Type 0
Passed line rest before = (words : List Word) × AreFirstWords words line rest × (before ≡ length words)

pub one_passed : (word : Word) (line rest after : List ℕ) (before : ℕ) → Passed line rest before → IsFirstWord word rest after → Passed line after (before + 1)
one_passed word line rest after before (words, are, count) first =
    (words ++ word ∷ [], first_words_more words word line rest after are first, ap (λ (n : ℕ). n + 1) count ∙ sym (length-append words (word ∷ [])))

word_some : (word : Word) (text : List ℕ) → IsWord word text → 1 ≤ length text
word_some word [] is = absurd ((word_here word [] [] is).1 tt)
word_some word (b ∷ text) is = omega arith

rest_shorter : (word : Word) (line after : List ℕ) → IsFirstWord word line after → length after < length line
rest_shorter word line after first =
    let whole = ap length first.parts ∙ length-append first.gap (first.text ++ after) in
    let part = length-append first.text after in
    let some = word_some word first.text first.is_word in
    omega (arith, whole, part, some)

pub first_room : (word : Word) (line after : List ℕ) → IsFirstWord word line after → 1 + length after ≤ length line
first_room word line after first = let less = rest_shorter word line after first in omega (arith, less)

pub one_room : (word : Word) (line rest after : List ℕ) (before : ℕ) → before + length rest ≤ length line → IsFirstWord word rest after → (before + 1) + length after ≤ length line
one_room word line rest after before room first = let less = rest_shorter word rest after first in omega (arith, less, room)
