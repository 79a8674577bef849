-- A program and the inputs after it.
use Rattle.std.proofs.Common.{◌≡◌, ◌==◌, ◌+◌, ◌-◌, ◌++◌, ◌<◌, ◌≤◌, ◌∙◌, ℕ, Bool, Bor, true, false, List, [], ◌∷◌, Option, Some, None, length, take, drop, get_or, ap, cond, refl, sym, subst, append_assoc, arith, codes}
use Rattle.std.specs.Prelude.{nat_lt, unwrap_or}
use Rattle.std.specs.List.{after_first, before_first, join_with_byte, position, position_or_len}
use Rattle.std.specs.Option.{option_map}
use Rattle.std.specs.Str.{bytes_eq}
use Rattle.std.proofs.lemmas.Bool.{eqb-true, ltb-false, ltb-true}
use Rattle.std.proofs.lemmas.List.{append-nil, drop_more, length-append, length-drop, take-append-drop, take-append-le, take_all}
use Rattle.std.proofs.lemmas.List.Sums.{fails_before_first, passes_at_first, split_at_first}
use Rattle.std.proofs.lemmas.List.Splits.{join_with_byte-slice_split, slice_split_first, slice_split_none}
use Rattle.clap.specs.Words.{Text}
use Rattle.tw_source.specs.Inputs.{begins_inputs, cut_inputs, lines_in, words_in}
use Rattle.tw_source.specs.FirstLine.{IsFirstLine}

-- ---- the first line

abbrev pub is_feed : ℕ → Bool
is_feed b = b == 10

with_feed : (text : List ℕ) → position_or_len is_feed text < length text → IsFirstLine text (before_first is_feed text) (Some (after_first is_feed text))
with_feed text first = (
  slice_split_first is_feed text 0 first,
  split_at_first is_feed text 0 first ∙ ap (λ (c : ℕ). before_first is_feed text ++ c ∷ after_first is_feed text) (eqb-true (get_or text (position_or_len is_feed text) 0) 10 (passes_at_first is_feed text 0 first)),
)

without_feed : (text : List ℕ) → length text ≤ position_or_len is_feed text → IsFirstLine text text None
without_feed text none = (slice_split_none is_feed text (λ k d inside. fails_before_first is_feed text k d (omega arith)), refl)

-- as the code cuts it
pub feed_found : (text : List ℕ) (found : Option ℕ) (at : ℕ) → found ≡ position is_feed text → found ≡ Some at → IsFirstLine text (take at text) (Some (take (length text - (at + 1)) (drop (at + 1) text)))
feed_found text found at is some = by (nat_lt (position_or_len is_feed text) (length text)) refl (sym is ∙ some)
  where
    value : {a b : ℕ} → Some a ≡ Some b → a ≡ b
    value e = cc

    none : None ≡ Some at → ⊥
    none e = cc

    by : (b : Bool) → nat_lt (position_or_len is_feed text) (length text) ≡ b → cond b (Some (position_or_len is_feed text)) None ≡ Some at → IsFirstLine text (take at text) (Some (take (length text - (at + 1)) (drop (at + 1) text)))
    by false e same = absurd (none same)
    by true e same =
        let left : length (drop (at + 1) text) ≤ length text - (at + 1) = omega (arith, length-drop (at + 1) text) in
        subst (λ (rest : List ℕ). IsFirstLine text (take at text) (Some rest)) (sym (take_all (length text - (at + 1)) (drop (at + 1) text) left))
        (subst (λ (n : ℕ). IsFirstLine text (take n text) (Some (drop (n + 1) text))) (value same) (with_feed text (ltb-true (position_or_len is_feed text) (length text) e)))

pub no_feed : (text : List ℕ) (found : Option ℕ) → found ≡ position is_feed text → found ≡ None → IsFirstLine text text None
no_feed text found is none = by (nat_lt (position_or_len is_feed text) (length text)) refl (sym is ∙ none)
  where
    some : Some (position_or_len is_feed text) ≡ None → ⊥
    some e = cc

    by : (b : Bool) → nat_lt (position_or_len is_feed text) (length text) ≡ b → cond b (Some (position_or_len is_feed text)) None ≡ None → IsFirstLine text text None
    by true e same = absurd (some same)
    by false e same = without_feed text (ltb-false (position_or_len is_feed text) (length text) e)

-- ---- the line `inputs`

abbrev onto : List ℕ → Option (List ℕ × List ℕ) → Option (List ℕ × List ℕ)
onto done = option_map (λ c. (done ++ c.0, c.1))

onto_line : (done line : List ℕ) (o : Option (List ℕ × List ℕ)) → onto done (option_map (λ c. (line ++ 10 ∷ c.0, c.1)) o) ≡ onto (done ++ (line ++ 10 ∷ [])) o
onto_line done line None = refl
onto_line done line (Some (before, after)) =
    ap (λ (t : List ℕ). Some (t, after)) (ap (λ (t : List ℕ). done ++ t) (sym (append_assoc line (10 ∷ []) before)) ∙ sym (append_assoc done (line ++ 10 ∷ []) before))

-- this many bytes are before the rest, in lines of which none is `inputs`
pub record CutTo (text : List ℕ) (count : ℕ) (rest : List ℕ) : Type 0 where
  pub done : List ℕ
  pub whole : text ≡ done ++ rest
  pub count_is : count ≡ length done
  pub cut : cut_inputs (lines_in text) ≡ onto done (cut_inputs (lines_in rest))

at_line : (line : List ℕ) (others : List (List ℕ)) (b : Bool) → begins_inputs line ≡ b
    → cut_inputs (line ∷ others) ≡ cond b (Some ([], join_with_byte 10 others)) (option_map (λ c. (line ++ 10 ∷ c.0, c.1)) (cut_inputs others))
at_line line others b is = ap (λ (x : Bool). cond x (Some ([], join_with_byte 10 others)) (option_map (λ c. (line ++ 10 ∷ c.0, c.1)) (cut_inputs others))) is

pub cut_more : (text rest line others : List ℕ) (count : ℕ) → CutTo text count rest → IsFirstLine rest line (Some others) → begins_inputs line ≡ false → CutTo text (count + (length line + 1)) others
cut_more text rest line others count cut first not = record {
  done = cut.done ++ (line ++ 10 ∷ []);
  whole = cut.whole ∙ ap (λ (t : List ℕ). cut.done ++ t) (first.1 ∙ sym (append_assoc line (10 ∷ []) others)) ∙ sym (append_assoc cut.done (line ++ 10 ∷ []) others);
  count_is =
      let one : length (line ++ 10 ∷ []) ≡ length line + 1 = length-append line (10 ∷ []) in
      omega (arith, one, length-append cut.done (line ++ 10 ∷ []), cut.count_is);
  cut =
      cut.cut ∙ ap (λ (ls : List (List ℕ)). onto cut.done (cut_inputs ls)) first.0 ∙ ap (onto cut.done) (at_line line (lines_in others) false not)
      ∙ onto_line cut.done line (cut_inputs (lines_in others));
}

front : (text rest : List ℕ) (count : ℕ) → (cut : CutTo text count rest) → cut.done ++ [] ≡ take count text
front text rest count cut =
    append-nil cut.done ∙ sym (ap (λ (n : ℕ). take n text) cut.count_is ∙ ap (take (length cut.done)) cut.whole ∙ take-append-le (length cut.done) cut.done rest (omega arith) ∙ take_all (length cut.done) cut.done (omega arith))

pub unwrapped : (rest : Option (Bor (List ℕ))) (default : Bor (List ℕ)) → (unwrap_or rest default).now ≡ unwrap_or (option_map (λ (r : Bor (List ℕ)). r.now) rest) default.now
unwrapped None default = refl
unwrapped (Some rest) default = refl

pub cut_found : (text rest line : List ℕ) (after : Option (List ℕ)) (count : ℕ) → CutTo text count rest → IsFirstLine rest line after → begins_inputs line ≡ true → Some (take count text, unwrap_or after []) ≡ cut_inputs (lines_in text)
cut_found text rest line None count cut first is =
    sym (cut.cut ∙ ap (λ (ls : List (List ℕ)). onto cut.done (cut_inputs ls)) first.0 ∙ ap (onto cut.done) (at_line line [] true is) ∙ ap (λ (t : List ℕ). Some (t, [])) (front text rest count cut))
cut_found text rest line (Some others) count cut first is =
    sym (cut.cut ∙ ap (λ (ls : List (List ℕ)). onto cut.done (cut_inputs ls)) first.0 ∙ ap (onto cut.done) (at_line line (lines_in others) true is)
    ∙ ap (λ (t : List ℕ). Some (cut.done ++ [], t)) (join_with_byte-slice_split 10 others) ∙ ap (λ (t : List ℕ). Some (t, others)) (front text rest count cut))

-- ---- words

-- these are the words of the first lines
abbrev pub AreWordsOf : List Text → List Text → Type 0
AreWordsOf front words = (ls : List Text) → words_in (front ++ ls) ≡ words ++ words_in ls

-- a line `end` follows so many lines
pub words_end : (all front words : List Text) (line : Text) (n : ℕ) → AreWordsOf front words → front ≡ take n all → n < length all → line ≡ get_or all n line → bytes_eq line (codes "end") ≡ true → words ≡ words_in all
words_end all front words line n are so_far inside here is =
    let whole : all ≡ front ++ line ∷ drop (n + 1) all =
    sym (take-append-drop n all) ∙ ap (λ (ls : List Text). take n all ++ ls) (drop_more all n line inside) ∙ ap (λ (l : Text). take n all ++ l ∷ drop (n + 1) all) (sym here)
    ∙ ap (λ (ls : List Text). ls ++ line ∷ drop (n + 1) all) (sym so_far) in
    let rest = drop (n + 1) all in
    let none : words_in (line ∷ rest) ≡ [] = ap (λ (b : Bool). cond b [] (cond (length line == 0) (words_in rest) (line ∷ words_in rest))) is in
    sym (ap words_in whole ∙ are (line ∷ rest) ∙ ap (λ (ws : List Text). words ++ ws) none ∙ append-nil words)

pub all_words : (front words : List Text) → AreWordsOf front words → words ≡ words_in front
all_words front words are = sym (ap words_in (sym (append-nil front)) ∙ are [] ∙ append-nil words)
