-- Parsing between quotes from left to right finds the text that is written there, and no other.
use Rattle.std.proofs.Common.{◌≡◌, ◌≢◌, ℕ, ◌+◌, ◌*◌, ◌<◌, ◌⊎◌, inl, inr, Bool, true, false, cond, eqb, List, [], ◌∷◌, ◌++◌, Option, Some, None, refl, sym, ap, subst, ◌∙◌, append_assoc, arith}
use Rattle.std.specs.Prelude.{nat_lt}
use Rattle.std.specs.Char.{digit_value}
use Rattle.std.proofs.lemmas.Bool.{eqb-true, ltb-true, lt-ltb}
use Rattle.std.proofs.lemmas.Bool.Decides.{nat_tests}
use Rattle.tw_lexer.specs.declared.escape.Escape.{Escape}
use Rattle.tw_lexer.specs.declared.escape.Escape.TheVariants.{Nothing, Slash, Hex, Digit}
use Rattle.tw_lexer.specs.Quoted.{BeginsQuoted, IsInside, IsPiece, backslash, hex, line_feed, nothing, one_more, plain, quote}
use Rattle.tw_lexer.specs.reading.Inside.{Found, inside_from, with_byte}

-- ---- a text between quotes is read

pub not_eq : (a b : ℕ) → a ≢ b → eqb a b ≡ false
not_eq a b ne = grind (arith, nat_tests)

-- a piece is read as its byte
piece_read : (b : ℕ) (piece bytes : List ℕ) → IsPiece b piece → inside_from Nothing (piece ++ bytes) ≡ with_byte b (inside_from Nothing bytes)
unfolding inside_from
piece_read _ _ bytes (plain b p q) = rw (not_eq b 34 p, not_eq b 92 q) refl
piece_read _ _ bytes quote = refl
piece_read _ _ bytes backslash = refl
piece_read _ _ bytes line_feed = refl
piece_read _ _ bytes (hex h l p q) = rw (lt-ltb (digit_value h) 8 p, lt-ltb (digit_value l) 16 q) refl

pub inside_read : (text inside rest : List ℕ) → IsInside text inside → inside_from Nothing (inside ++ 34 ∷ rest) ≡ Some (text, rest)
unfolding inside_from
inside_read _ _ rest nothing = refl
inside_read _ _ rest (one_more b piece text inside p i) =
    ap (inside_from Nothing) (append_assoc piece inside (34 ∷ rest)) ∙ piece_read b piece (inside ++ 34 ∷ rest) p ∙ ap (with_byte b) (inside_read text inside rest i)

-- ---- a text that is read is between quotes

-- the branch that a test took
chosen : {Z : Type 0} (b : Bool) (x y z : Z) → cond b x y ≡ z → ((b ≡ true) × (x ≡ z)) ⊎ ((b ≡ false) × (y ≡ z))
chosen true x y z e = inl (refl, e)
chosen false x y z e = inr (refl, e)

some_is : {A : Type 0} (x y : A) → ◌≡◌ {A = Option A} (Some x) (Some y) → x ≡ y
some_is x y e = cc

none_is : {A : Type 0} {Z : Type 0} (x : A) → ◌≡◌ {A = Option A} None (Some x) → Z
none_is x e = absurd cc

with_some : (b : ℕ) (r : Found) (text rest : List ℕ) → with_byte b r ≡ Some (text, rest) → (x : List ℕ) × (r ≡ Some (x, rest)) × (b ∷ x ≡ text)
with_some b None text rest e = absurd cc
with_some b (Some x) text rest e =
    let same : ◌≡◌ {A = List ℕ × List ℕ} (b ∷ x.0, x.1) (text, rest) = some_is (b ∷ x.0, x.1) (text, rest) e in
    (x.0, ap (λ (r : List ℕ). Some (x.0, r)) (ap (λ (y : List ℕ × List ℕ). y.1) same), ap (λ (y : List ℕ × List ℕ). y.0) same)

-- the bytes already read of an escape
abbrev HasBegun : Escape → List ℕ → Type 0
HasBegun Nothing front = front ≡ []
HasBegun Slash front = front ≡ 92 ∷ []
HasBegun Hex front = front ≡ 92 ∷ 120 ∷ []
HasBegun (Digit first) front = (h : ℕ) × (front ≡ 92 ∷ 120 ∷ h ∷ []) × (digit_value h ≡ first) × (first < 8)

-- with what has been read of an escape, the bytes are this text up to its quote, and the rest
pub record IsFound (front bytes text rest : List ℕ) : Type 0 where
  pub inside : List ℕ
  pub is_inside : IsInside text inside
  pub parts : front ++ bytes ≡ inside ++ 34 ∷ rest

by_digits : (first h b : ℕ) → digit_value h ≡ first → first < 8 → digit_value b < 16 → IsPiece (16 * first + digit_value b) (92 ∷ 120 ∷ h ∷ b ∷ [])
by_digits first h b e low high = subst (λ (y : ℕ). IsPiece (16 * y + digit_value b) (92 ∷ 120 ∷ h ∷ b ∷ [])) e (hex h b (subst (λ (y : ℕ). y < 8) (sym e) low) high)

-- one byte more was read
more : (b : ℕ) (piece front all bytes text rest : List ℕ) → IsPiece b piece → front ++ all ≡ piece ++ bytes → with_byte b (inside_from Nothing bytes) ≡ Some (text, rest)
    → ((x : List ℕ) → inside_from Nothing bytes ≡ Some (x, rest) → IsFound [] bytes x rest) → IsFound front all text rest
more b piece front all bytes text rest p parts e others =
    let w = with_some b (inside_from Nothing bytes) text rest e in
    let r = others w.0 w.1 in
    record {
      inside = piece ++ r.inside;
      is_inside = subst (λ (y : List ℕ). IsInside y (piece ++ r.inside)) w.2 (one_more b piece w.0 r.inside p r.is_inside);
      parts = parts ∙ ap (λ (y : List ℕ). piece ++ y) r.parts ∙ sym (append_assoc piece r.inside (34 ∷ rest));
    }

at_end : (front bytes text rest : List ℕ) (b : ℕ) → front ≡ [] → eqb b 34 ≡ true → ◌≡◌ {A = List ℕ × List ℕ} ([], bytes) (text, rest) → IsFound front (b ∷ bytes) text rest
at_end front bytes text rest b f e same = record {
  inside = [];
  is_inside = subst (λ (y : List ℕ). IsInside y []) (ap (λ (y : List ℕ × List ℕ). y.0) same) nothing;
  parts = rw (f, eqb-true b 34 e) (ap (λ (y : List ℕ × List ℕ). 34 ∷ y.1) same);
}

-- a test that failed
apart : (a b : ℕ) → eqb a b ≡ false → a ≢ b
apart a b e same = grind (arith, nat_tests)

pub found_inside : (bytes : List ℕ) (escape : Escape) (front text rest : List ℕ) → HasBegun escape front → inside_from escape bytes ≡ Some (text, rest) → IsFound front bytes text rest
unfolding inside_from
found_inside [] escape front text rest before is = absurd cc
found_inside (b ∷ bytes) Nothing front text rest before is =
    elim (chosen (eqb b 34) _ _ (Some (text, rest)) is) [
      | inl h ↦ at_end front bytes text rest b before h.0 (some_is _ _ h.1)
      | inr h ↦ elim (chosen (eqb b 92) _ _ (Some (text, rest)) h.1) [
        | inl k ↦
            let r = found_inside bytes Slash (92 ∷ []) text rest refl k.1 in
            record { inside = r.inside; is_inside = r.is_inside; parts = rw (before, eqb-true b 92 k.0) r.parts }
        | inr k ↦ more b (b ∷ []) front (b ∷ bytes) bytes text rest (plain b (apart b 34 h.0) (apart b 92 k.0)) (rw before refl) k.1 (λ x e. found_inside bytes Nothing [] x rest refl e)
      ]
    ]
found_inside (b ∷ bytes) Slash front text rest before is =
    elim (chosen (eqb b 34) _ _ (Some (text, rest)) is) [
      | inl h ↦ more 34 (92 ∷ 34 ∷ []) front (b ∷ bytes) bytes text rest quote (rw (before, eqb-true b 34 h.0) refl) h.1 (λ x e. found_inside bytes Nothing [] x rest refl e)
      | inr h ↦ elim (chosen (eqb b 92) _ _ (Some (text, rest)) h.1) [
        | inl k ↦ more 92 (92 ∷ 92 ∷ []) front (b ∷ bytes) bytes text rest backslash (rw (before, eqb-true b 92 k.0) refl) k.1 (λ x e. found_inside bytes Nothing [] x rest refl e)
        | inr k ↦ elim (chosen (eqb b 110) _ _ (Some (text, rest)) k.1) [
          | inl m ↦ more 10 (92 ∷ 110 ∷ []) front (b ∷ bytes) bytes text rest line_feed (rw (before, eqb-true b 110 m.0) refl) m.1 (λ x e. found_inside bytes Nothing [] x rest refl e)
          | inr m ↦ elim (chosen (eqb b 120) _ _ (Some (text, rest)) m.1) [
            | inl n ↦
                let r = found_inside bytes Hex (92 ∷ 120 ∷ []) text rest refl n.1 in
                record { inside = r.inside; is_inside = r.is_inside; parts = rw (before, eqb-true b 120 n.0) r.parts }
            | inr n ↦ none_is (text, rest) n.1
          ]
        ]
      ]
    ]
found_inside (b ∷ bytes) Hex front text rest before is =
    elim (chosen (nat_lt (digit_value b) 8) _ _ (Some (text, rest)) is) [
      | inl h ↦
          let r = found_inside bytes (Digit (digit_value b)) (92 ∷ 120 ∷ b ∷ []) text rest (b, refl, refl, ltb-true (digit_value b) 8 h.0) h.1 in
          record { inside = r.inside; is_inside = r.is_inside; parts = rw before r.parts }
      | inr h ↦ none_is (text, rest) h.1
    ]
found_inside (b ∷ bytes) (Digit first) front text rest before is =
    elim (chosen (nat_lt (digit_value b) 16) _ _ (Some (text, rest)) is) [
      | inl h ↦
          more (16 * first + digit_value b) (92 ∷ 120 ∷ before.0 ∷ b ∷ []) front (b ∷ bytes) bytes text rest (by_digits first before.0 b before.2 before.3 (ltb-true (digit_value b) 16 h.0))
          (rw before.1 refl) h.1 (λ x e. found_inside bytes Nothing [] x rest refl e)
      | inr h ↦ none_is (text, rest) h.1
    ]

-- ---- a quoted text at the start

pub tail_is : (b c : ℕ) (xs ys : List ℕ) → b ∷ xs ≡ c ∷ ys → xs ≡ ys
tail_is b c xs ys e = cc

pub head_is : (b c : ℕ) (xs ys : List ℕ) → b ∷ xs ≡ c ∷ ys → b ≡ c
head_is b c xs ys e = cc

pub begins_read : (text : List ℕ) (b : ℕ) (bytes rest : List ℕ) → BeginsQuoted text (b ∷ bytes) rest → (b ≡ 34) × (inside_from Nothing bytes ≡ Some (text, rest))
begins_read text b bytes rest (word, (inside, is, quotes), whole) =
    let parts : b ∷ bytes ≡ 34 ∷ (inside ++ 34 ∷ rest) = whole ∙ ap (λ (w : List ℕ). w ++ rest) quotes ∙ ap (λ (w : List ℕ). 34 ∷ w) (append_assoc inside (34 ∷ []) rest) in
    (head_is _ _ _ _ parts, ap (inside_from Nothing) (tail_is _ _ _ _ parts) ∙ inside_read text inside rest is)

pub none_begins : (text rest : List ℕ) → BeginsQuoted text [] rest → ⊥
none_begins text rest (word, (inside, is, quotes), whole) = no (whole ∙ ap (λ (w : List ℕ). w ++ rest) quotes)
  where
    no : [] ≡ 34 ∷ ((inside ++ 34 ∷ []) ++ rest) → ⊥
    no e = cc

pub read_begins : (text bytes rest : List ℕ) → inside_from Nothing bytes ≡ Some (text, rest) → BeginsQuoted text (34 ∷ bytes) rest
read_begins text bytes rest e =
    let r = found_inside bytes Nothing [] text rest refl e in
    (34 ∷ (r.inside ++ 34 ∷ []), (r.inside, r.is_inside, refl), ap (λ (w : List ℕ). 34 ∷ w) (r.parts ∙ sym (append_assoc r.inside (34 ∷ []) rest)))

pub never_both : (x : List ℕ × List ℕ) → ◌≡◌ {A = Found} None (Some x) → ⊥
never_both x e = cc

-- only one quoted text is at the start, and only one rest follows
pub one_text : (text other bytes rest after : List ℕ) → BeginsQuoted text bytes rest → BeginsQuoted other bytes after → (text ≡ other) × (rest ≡ after)
one_text text other [] rest after h k = absurd (none_begins text rest h)
one_text text other (b ∷ bytes) rest after h k =
    let same : ◌≡◌ {A = List ℕ × List ℕ} (text, rest) (other, after) = some_is _ _ (sym (begins_read text b bytes rest h).1 ∙ (begins_read other b bytes after k).1) in
    (ap (λ (x : List ℕ × List ℕ). x.0) same, ap (λ (x : List ℕ × List ℕ). x.1) same)
