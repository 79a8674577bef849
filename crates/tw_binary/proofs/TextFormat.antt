-- Texts: each is parsed as it was written, and one that is wrong or cut off is reported.
use Rattle.tw_binary.proofs.Names.{Bool, Broken, Err, FaultNo, IsWithin, Item, List, Ok, Utf8, [], ap, append-nil, arith, concat, cond, drop, drop_at, false, inl, inr, le-ltb, length, length-append, length-take, ltb, ltb-false, refl, subst, suc, sym, take, take-append-drop, take_at, text_items, true, wide, zero, ℕ, ◌++◌, ◌>>=◌, ◌∙◌, ◌∷◌, ◌≡◌, ◌≤◌}
use Rattle.std.specs.Str.{IsAscii, IsUtf8, is_utf8}
use Rattle.std.proofs.lemmas.Str.{IsUtf8-from_is_utf8, is_utf8-from_IsUtf8, IsUtf8-nil, IsUtf8-from_ascii}
use Rattle.tw_types.specs.Text.{IsText}
use Rattle.tw_binary.specs.Reading.{wide_at, utf8_at, text_at, wrong}
use Rattle.tw_binary.proofs.Formats.{IsBytes, bind_ok, passed, Takes, Takes-then, goes_after}
use Rattle.tw_binary.proofs.Breaks.{IsStrict, IsOfItem, FailsAt, GoesOn, ended, carried, due_first, due_after, bind_err, refused}
use Rattle.tw_binary.proofs.Numbers.{a_wide, wide_strict, unless, until, front_of, cut_off}

-- the test for UTF-8, by the facts that std gives
pub not_utf8 : (bytes : List ℕ) → (IsUtf8 bytes → ⊥) → is_utf8 bytes ≡ false
not_utf8 bytes h = by_value (is_utf8 bytes) refl where
  by_value : (b : Bool) → is_utf8 bytes ≡ b → is_utf8 bytes ≡ false
  by_value true e = absurd (h (IsUtf8-from_is_utf8 bytes e))
  by_value false e = e

pub ruleset utf8_tests = (is_utf8-from_IsUtf8, not_utf8)

-- ---- a number of bytes of UTF-8

abbrev IsOfSize : ℕ → List ℕ → Type 0
IsOfSize size text = (length text ≡ size) × IsUtf8 text

-- an item of all the bytes of a text
abbrev a_text : List ℕ → List Item
a_text text = text ∷ []

-- a text of this many bytes
spaces : ℕ → List ℕ
spaces zero = []
spaces (suc n) = 0x20 ∷ spaces n

spaces_len : (n : ℕ) → length (spaces n) ≡ n
unfolding spaces
spaces_len zero = refl
spaces_len (suc n) = ap suc (spaces_len n)

spaces_ascii : (n : ℕ) → IsAscii (spaces n)
unfolding spaces
spaces_ascii zero i = omega arith
spaces_ascii (suc n) zero = omega arith
spaces_ascii (suc n) (suc i) = spaces_ascii n i

spaces_utf8 : (n : ℕ) → IsUtf8 (spaces n)
spaces_utf8 n = IsUtf8-from_ascii (spaces n) (spaces_ascii n)

utf8_of_text : (size : ℕ) (text rest : List ℕ) → length text ≡ size → is_utf8 text ≡ true → utf8_at size (text ++ rest) ≡ Ok (text, rest)
unfolding utf8_at
utf8_of_text size text rest len ok =
    let long : ltb (length (text ++ rest)) size ≡ false = le-ltb _ _ (omega (arith, length-append text rest, len)) in
    rw (long, take_at text rest size len, drop_at text rest size len, ok) refl

utf8_wrong : (size : ℕ) (text rest : List ℕ) → length text ≡ size → is_utf8 text ≡ false → utf8_at size (text ++ rest) ≡ Err (record { no = Utf8; left = length (text ++ rest) })
unfolding utf8_at
utf8_wrong size text rest len bad =
    let long : ltb (length (text ++ rest)) size ≡ false = le-ltb _ _ (omega (arith, length-append text rest, len)) in
    rw (long, take_at text rest size len, bad) refl

utf8_strict : (size : ℕ) → IsStrict (IsOfSize size) a_text (utf8_at size)
unfolding utf8_at
utf8_strict size = record { format = record { takes = takes; again = again }; some = spaces size; some_fits = (spaces_len size, spaces_utf8 size); fails = fails } where
  takes : (bytes x rest : List ℕ) → IsBytes bytes → utf8_at size bytes ≡ Ok (x, rest) → Takes bytes (concat (a_text x)) rest × IsOfSize size x
  takes bytes x rest fits e =
      let long = unless (ltb (length bytes) size) _ (cond (is_utf8 (take size bytes)) (Ok (take size bytes, drop size bytes)) (wrong Utf8 bytes)) (x, rest) e in
      let g = passed (is_utf8 (take size bytes)) _ (take size bytes, drop size bytes) (x, rest) long.1 in
      let enough : size ≤ length bytes = ltb-false _ _ long.0 in
      let len : length (take size bytes) ≡ size = omega (arith, length-take size bytes) in
      subst (λ (y : List ℕ × List ℕ). Takes bytes (concat (a_text y.0)) y.1 × IsOfSize size y.0) g.1 (front_of size bytes (take size bytes) fits refl, (len, IsUtf8-from_is_utf8 _ g.0))

  again : (x rest : List ℕ) → IsOfSize size x → utf8_at size (concat (a_text x) ++ rest) ≡ Ok (x, rest)
  again x rest h = ap (λ (t : List ℕ). utf8_at size (t ++ rest)) (append-nil x) ∙ utf8_of_text size x rest h.0 (is_utf8-from_IsUtf8 x h.1)

  fails : (bytes : List ℕ) (f : Broken) → IsBytes bytes → utf8_at size bytes ≡ Err f → FailsAt (IsOfSize size) a_text (utf8_at size) bytes f
  fails bytes f fits e =
      let text = take size bytes in
      elim (until (ltb (length bytes) size) ended (cond (is_utf8 text) (Ok (text, drop size bytes)) (wrong Utf8 bytes)) f e) [
        | inl h ↦ inl (cut_off bytes size f (spaces size) (spaces_len size, spaces_utf8 size) (spaces size) refl (spaces_len size) h.0 h.1)
        | inr h ↦
            let g = refused (is_utf8 text) (text, drop size bytes) (record { no = Utf8; left = length bytes }) f h.1 in
            let enough : size ≤ length bytes = ltb-false _ _ h.0 in
            let len : length text ≡ size = omega (arith, length-take size bytes) in
            inr (record {
              before = [];
              item = text;
              after = drop size bytes;
              parts = sym (take-append-drop size bytes);
              left = ap (λ (d : Broken). d.left) (sym g.1) ∙ ap length (sym (take-append-drop size bytes));
              of_item = subst (λ (d : Broken). IsOfItem d.no) g.1 tt;
              due = record {
                value = spaces size;
                fits = (spaces_len size, spaces_utf8 size);
                done = [];
                next = spaces size;
                later = [];
                items = refl;
                joined = refl;
                size_is = spaces_len size ∙ sym len;
              };
              stops = λ rest. utf8_wrong size text rest len g.0 ∙ ap (λ (k : FaultNo). Err (record { no = k; left = length (text ++ rest) })) (ap (λ (d : Broken). d.no) g.1);
            })
      ]

-- ---- a length, and this many bytes

length_strict : IsStrict (IsWithin 0 4096) a_wide (wide_at 0 4096)
length_strict = wide_strict 0 4096 (omega arith) (omega arith)

in_length : GoesOn (IsWithin 0 4096) a_wide (wide_at 0 4096) IsText text_items text_at []
in_length = record {
  due = due_first spaces (λ n h. record { short = subst (λ (k : ℕ). k ≤ 4096) (sym (spaces_len n)) h.1; utf8 = spaces_utf8 n }) (λ n. a_text (spaces n)) (λ n h. ap (λ (k : ℕ). wide k ∷ spaces n ∷ []) (spaces_len n));
  fails = λ rest d h. rw h refl;
}

in_text : (size : ℕ) → IsWithin 0 4096 size → GoesOn (IsOfSize size) a_text (utf8_at size) IsText text_items text_at (concat (a_wide size))
in_text size fits = record {
  due = due_after (λ x. x) (λ x h. record { short = subst (λ (k : ℕ). k ≤ 4096) (sym h.0) fits.1; utf8 = h.1 }) (a_wide size) (λ x h. ap (λ (k : ℕ). wide k ∷ x ∷ []) h.0);
  fails = λ rest d h. ap (λ r. r >>= λ n. utf8_at n.0 n.1) (length_strict.format.again size rest fits) ∙ h;
}

pub text_strict : IsStrict IsText text_items text_at
text_strict = record { format = record { takes = takes; again = again }; some = []; some_fits = record { short = omega arith; utf8 = IsUtf8-nil }; fails = fails } where
  takes : (bytes x rest : List ℕ) → IsBytes bytes → text_at bytes ≡ Ok (x, rest) → Takes bytes (concat (text_items x)) rest × IsText x
  takes bytes x rest fits e =
      let a = bind_ok (wide_at 0 4096 bytes) (λ n. utf8_at n.0 n.1) (x, rest) e in
      let t = length_strict.format.takes bytes a.0.0 a.0.1 fits a.1 in
      let u = (utf8_strict a.0.0).format.takes a.0.1 x rest t.0.rest_fits a.2 in
      let all : Takes bytes (concat (a_wide a.0.0 ++ a_text x)) rest = Takes-then bytes (a_wide a.0.0) a.0.1 (a_text x) rest t.0 u.0 in
      (subst (λ (k : ℕ). Takes bytes (concat (a_wide k ++ a_text x)) rest) (sym u.1.0) all, record { short = subst (λ (k : ℕ). k ≤ 4096) (sym u.1.0) t.1.1; utf8 = u.1.1 })

  again : (x rest : List ℕ) → IsText x → text_at (concat (text_items x) ++ rest) ≡ Ok (x, rest)
  again x rest h =
      ap text_at (goes_after (a_wide (length x)) (a_text x) rest)
      ∙ (ap (λ r. r >>= λ n. utf8_at n.0 n.1) (length_strict.format.again (length x) (concat (a_text x) ++ rest) (omega arith, h.short)) ∙ (utf8_strict (length x)).format.again x rest (refl, h.utf8))

  fails : (bytes : List ℕ) (f : Broken) → IsBytes bytes → text_at bytes ≡ Err f → FailsAt IsText text_items text_at bytes f
  fails bytes f fits e =
      elim (bind_err (wide_at 0 4096 bytes) (λ n. utf8_at n.0 n.1) f e) [
        | inl h ↦ carried in_length bytes bytes f refl (length_strict.fails bytes f fits h)
        | inr h ↦
            let t = length_strict.format.takes bytes h.0.0 h.0.1 fits h.1 in
            carried (in_text h.0.0 t.1) h.0.1 bytes f t.0.parts ((utf8_strict h.0.0).fails h.0.1 f t.0.rest_fits h.2)
      ]
