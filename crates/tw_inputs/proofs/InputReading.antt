-- The readers of input words find what the words encode.
use Rattle.std.proofs.Common.{◌≡◌, w64, to_z, of_z, ◌≢◌, inl, inr, ◌<◌, ℕ, ℤ, List, [], ◌∷◌, ◌++◌, refl, sym, ap, subst, ◌∙◌, append_assoc, arith}
use Rattle.std.specs.Prelude.{Err, IsUtf8}
use Rattle.std.specs.List.{AllByRecursion}
use Rattle.std.specs.Char.{digit_value}
use Rattle.std.specs.Str.Parse.{AllDigits}
use Rattle.std.proofs.lemmas.Int.{to_z-of_z}
use Rattle.std.proofs.lemmas.Str.Parse.{digit_from_value}
use Rattle.tw_lexer.specs.declared.numbers.TokenError.{TokenError}
use Rattle.tw_lexer.specs.declared.numbers.TokenError.TheVariants.{Form, Limit}
use Rattle.tw_lexer.specs.Number.{IsIn64, IsRead, EncodesNumber}
use Rattle.tw_lexer.specs.Quoted.{BeginsQuoted, EncodesQuoted}
use Rattle.tw_lexer.proofs.Insides.{one_text}
use Rattle.tw_lexer.proofs.Numerals.{one_number}
use Rattle.tw_lexer.proofs.Utf8.{cut_rest}
use Rattle.tw_inputs.specs.InputWords.{EncodesInt, EncodesMember}
use Rattle.tw_inputs.specs.Lists.{HasNoFirst, IsCut, IsFirst, IsMark, IsStop}
use Rattle.tw_inputs.proofs.Members.{one_cut}

-- ---- integers

-- an integer that is passed on is unchanged
pub same_int : (n : ℤ) → IsIn64 n → to_z w64 (of_z w64 n) ≡ n
same_int n h = grind (arith, to_z-of_z)

pub no_int : (text : List ℕ) (flaw : TokenError) → IsRead (λ n. EncodesNumber n text) IsIn64 (Err flaw) → (n : ℤ) → EncodesInt n text → ⊥
no_int text Form none = λ n h. none n h.0
no_int text Limit (m, spells, out) = λ n h. out (subst IsIn64 (one_number n m text h.0 spells) h.1)

pub one_int : (n m : ℤ) (text : List ℕ) → EncodesInt n text → EncodesInt m text → n ≡ m
one_int n m text h k = one_number n m text h.0 k.0

-- ---- a number before a marker

plain_digit : (mark b : ℕ) → IsMark mark → digit_value b < 10 → b ≢ mark
plain_digit mark b (inl m) h = let d = digit_from_value b h in λ e. absurd (omega (arith, d.0, d.1, e, m))
plain_digit mark b (inr m) h = let d = digit_from_value b h in λ e. absurd (omega (arith, d.0, d.1, e, m))

plain_digits : (mark : ℕ) (ds : List ℕ) → IsMark mark → AllDigits 10 ds → AllByRecursion (λ b. b ≢ mark) ds
plain_digits mark [] m h = tt
plain_digits mark (d ∷ ds) m h = (plain_digit mark d m h.0, plain_digits mark ds m h.1)

plain_minus : (mark : ℕ) → IsMark mark → 45 ≢ mark
plain_minus mark (inl m) = λ e. absurd (omega (arith, e, m))
plain_minus mark (inr m) = λ e. absurd (omega (arith, e, m))

-- it has no marker inside
plain_number : (mark : ℕ) (n : ℤ) (text : List ℕ) → IsMark mark → EncodesNumber n text → AllByRecursion (λ b. b ≢ mark) text
plain_number mark n text m (inl (size, h, e)) = plain_digits mark text m h.digits.1
plain_number mark n text m (inr (size, digits, is, h, e)) = subst (AllByRecursion (λ b. b ≢ mark)) (sym is) (plain_minus mark m, plain_digits mark digits m h.digits.1)

-- the cut is at the end of another number
cut_number : (mark : ℕ) (bytes digits rest : List ℕ) (m : ℤ) (other after : List ℕ) → IsMark mark → IsCut mark bytes digits rest → EncodesInt m other → IsStop mark after → bytes ≡ other ++ after → (digits ≡ other) × (rest ≡ after)
cut_number mark bytes digits rest m other after is cut spells stop parts =
    one_cut mark digits other rest after cut.clean (plain_number mark m other is spells.0) cut.stop stop (sym cut.parts ∙ parts)

pub int_found : (mark : ℕ) (bytes digits rest : List ℕ) (n : ℤ) → IsMark mark → IsCut mark bytes digits rest → EncodesInt n digits → IsFirst mark EncodesInt bytes n rest
int_found mark bytes digits rest n is cut found = record {
  first = digits;
  spells = found;
  parts = cut.parts;
  alone = λ m other after spells stop parts.
      let same = cut_number mark bytes digits rest m other after is cut spells stop parts in
      (one_int n m digits found (subst (EncodesInt m) (sym same.0) spells), same.1);
}

pub no_int_found : (mark : ℕ) (bytes digits rest : List ℕ) → IsMark mark → IsCut mark bytes digits rest → ((n : ℤ) → EncodesInt n digits → ⊥) → HasNoFirst mark EncodesInt bytes
no_int_found mark bytes digits rest is cut none m other after spells stop parts =
    none m (subst (EncodesInt m) (sym (cut_number mark bytes digits rest m other after is cut spells stop parts).0) spells)

-- ---- a text between quotes

pub text_found : (mark : ℕ) (bytes rest text : List ℕ) → BeginsQuoted text bytes rest → IsFirst mark EncodesQuoted bytes text rest
text_found mark bytes rest text (word, spelled, is) = record {
  first = word;
  spells = spelled;
  parts = is;
  alone = λ y other after spells stop parts. one_text text y bytes rest after (word, spelled, is) (other, spells, parts);
}

pub no_text_found : (mark : ℕ) (bytes : List ℕ) → ((text rest : List ℕ) → BeginsQuoted text bytes rest → ⊥) → HasNoFirst mark EncodesQuoted bytes
no_text_found mark bytes none y other after spells stop parts = none y after (other, spells, parts)

-- ---- a member

pair_is : {A B : Type 0} (a c : A) (b d : B) → a ≡ c → b ≡ d → ◌≡◌ {A = A × B} (a, b) (c, d)
pair_is a c b d e f = cc

after_equals : (xs ys : List ℕ) → 61 ∷ xs ≡ 61 ∷ ys → xs ≡ ys
after_equals xs ys e = cc

module _ {S A : Type 0} (SpellsSubscript : S → List ℕ → Type 0) (Spells : A → List ℕ → Type 0) where
  -- its subscript is before the first `=`
  member_parts : (bytes subscript value other after : List ℕ) → other ≡ subscript ++ 61 ∷ value → bytes ≡ other ++ after → bytes ≡ subscript ++ 61 ∷ (value ++ after)
  member_parts bytes subscript value other after e parts = parts ∙ ap (λ (t : List ℕ). t ++ after) e ∙ append_assoc subscript (61 ∷ value) after

  pub no_subscript : (bytes : List ℕ) → HasNoFirst 61 SpellsSubscript bytes → HasNoFirst 44 (EncodesMember SpellsSubscript Spells) bytes
  no_subscript bytes none y other after (subscript, value, h, k, e) stop parts =
      none y.0 subscript (61 ∷ (value ++ after)) h refl (member_parts bytes subscript value other after e parts)

  pub no_equals : (bytes rest : List ℕ) (s : S) → IsFirst 61 SpellsSubscript bytes s rest → ((following : List ℕ) → rest ≢ 61 ∷ following) → HasNoFirst 44 (EncodesMember SpellsSubscript Spells) bytes
  no_equals bytes rest s found none y other after (subscript, value, h, k, e) stop parts =
      none (value ++ after) (found.alone y.0 subscript (61 ∷ (value ++ after)) h refl (member_parts bytes subscript value other after e parts)).1

  pub no_value : (bytes rest following : List ℕ) (s : S) → IsFirst 61 SpellsSubscript bytes s rest → rest ≡ 61 ∷ following → HasNoFirst 44 Spells following → HasNoFirst 44 (EncodesMember SpellsSubscript Spells) bytes
  no_value bytes rest following s found equals none y other after (subscript, value, h, k, e) stop parts =
      let same = found.alone y.0 subscript (61 ∷ (value ++ after)) h refl (member_parts bytes subscript value other after e parts) in
      none y.1 value after k stop (after_equals following (value ++ after) (sym equals ∙ same.1))

  pub member_found : (bytes rest following last : List ℕ) (s : S) (x : A) → IsFirst 61 SpellsSubscript bytes s rest → rest ≡ 61 ∷ following → IsFirst 44 Spells following x last
      → IsFirst 44 (EncodesMember SpellsSubscript Spells) bytes (s, x) last
  member_found bytes rest following last s x found equals value = record {
    first = found.first ++ 61 ∷ value.first;
    spells = (found.first, value.first, found.spells, value.spells, refl);
    parts = found.parts ∙ ap (λ (t : List ℕ). found.first ++ t) (equals ∙ ap (λ (t : List ℕ). 61 ∷ t) value.parts) ∙ sym (append_assoc found.first (61 ∷ value.first) last);
    alone = λ y other after (subscript, word, h, k, e) stop parts.
        let same = found.alone y.0 subscript (61 ∷ (word ++ after)) h refl (member_parts bytes subscript word other after e parts) in
        let also = value.alone y.1 word after k stop (after_equals following (word ++ after) (sym equals ∙ same.1)) in
        (pair_is s y.0 x y.1 same.0 also.0, also.1);
  }

-- ---- UTF-8

-- the rest after the marker
pub mark_utf8 : {A : Type 0} (mark : ℕ) (Spells : A → List ℕ → Type 0) (bytes rest following : List ℕ) (x : A) → IsMark mark → IsUtf8 bytes → IsFirst mark Spells bytes x rest → rest ≡ mark ∷ following → IsUtf8 following
mark_utf8 mark Spells bytes rest following x is u found e = cut_rest found.first mark following (low is) (subst IsUtf8 (found.parts ∙ ap (λ (t : List ℕ). found.first ++ t) e) u)
  where
    low : IsMark mark → mark < 128
    low (inl m) = omega (arith, m)
    low (inr m) = omega (arith, m)

-- the rest after the colon of a head
pub head_utf8 : (head bytes rest : List ℕ) → IsUtf8 bytes → bytes ≡ (head ++ 58 ∷ []) ++ rest → IsUtf8 rest
head_utf8 head bytes rest u e = cut_rest head 58 rest (omega arith) (subst IsUtf8 (e ∙ append_assoc head (58 ∷ []) rest) u)

-- ---- one member alone

-- two values before a marker or the end of one text are equal
abbrev pub IsOne : {A : Type 0} → ℕ → (A → List ℕ → Type 0) → Type 0
IsOne {A} mark Spells = (x y : A) (first other rest after : List ℕ) → Spells x first → Spells y other → IsStop mark rest → IsStop mark after → first ++ rest ≡ other ++ after → (x ≡ y) × (rest ≡ after)

pub one_int_first : (mark : ℕ) → IsMark mark → IsOne mark EncodesInt
one_int_first mark is x y first other rest after h k stop also e =
    let same = one_cut mark first other rest after (plain_number mark x first is h.0) (plain_number mark y other is k.0) stop also e in
    (one_int x y other (subst (EncodesInt x) same.0 h) k, same.1)

pub one_text_first : (mark : ℕ) → IsOne mark EncodesQuoted
one_text_first mark x y first other rest after h k stop also e = one_text x y (first ++ rest) rest after (first, h, refl) (other, k, e)

pub one_member : {S A : Type 0} (SpellsSubscript : S → List ℕ → Type 0) (Spells : A → List ℕ → Type 0) → IsOne 61 SpellsSubscript → IsOne 44 Spells → IsOne 44 (EncodesMember SpellsSubscript Spells)
one_member SpellsSubscript Spells one only x y first other rest after (s, v, h, k, e) (t, w, i, l, f) stop also parts =
    let same = one x.0 y.0 s t (61 ∷ (v ++ rest)) (61 ∷ (w ++ after)) h i refl refl
    (sym (append_assoc s (61 ∷ v) rest) ∙ ap (λ (u : List ℕ). u ++ rest) (sym e) ∙ parts ∙ ap (λ (u : List ℕ). u ++ after) f ∙ append_assoc t (61 ∷ w) after) in
    let value = only x.1 y.1 v w rest after k l stop also (after_equals (v ++ rest) (w ++ after) same.1) in
    (pair_is x.0 y.0 x.1 y.1 same.0 value.0, value.1)
