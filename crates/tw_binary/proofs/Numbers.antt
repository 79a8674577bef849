-- Items of two and of eight bytes: each is parsed as it was written, and one that is wrong or cut off is reported.
use Rattle.tw_binary.proofs.Names.{Bool, Broken, Err, FaultNo, IsWithin, Item, Limit, List, Ok, Result, [], ap, append-nil, arith, concat, cond, drop, drop_at, false, inl, inr, le-ltb, length, length-append, length-take, lit<, ltb, ltb-false, ltb-true, number, refl, subst, sym, take, take-append-drop, take_at, true, wide, ℕ, ℤ, ◌++◌, ◌<◌, ◌^◌, ◌∙◌, ◌∷◌, ◌≡◌, ◌≤◌, ◌⊎◌}
use Rattle.std.specs.Prelude.{FitsSigned}
use Rattle.std.specs.Int.{w16, w64, from_be_bytes, to_be_bytes, cast_signed, cast_unsigned}
use Rattle.std.proofs.lemmas.Nat.{be_bytes_2, be_bytes_8, from_be_bytes-to_be_bytes_2, from_be_bytes-to_be_bytes_8}
use Rattle.std.proofs.lemmas.Int.{to_z-of_z, of_z-to_z}
use Rattle.std.proofs.Math.Facts.{sfits_to_z, Fits-of_z}
use Rattle.tw_binary.specs.Reading.{is_within, wide_at, number_at, wrong}
use Rattle.tw_binary.proofs.Formats.{IsBytes, IsBytes-take, IsBytes-drop, passed, ok_is, Takes, IsFormat}
use Rattle.tw_binary.proofs.Breaks.{IsStrict, IsOfItem, Lacks, FailsAt, ended, no_err, refused}
use Rattle.tw_binary.proofs.Bytes.{within-true, is_within-true}

-- an item of two bytes
abbrev pub a_wide : ℕ → List Item
a_wide n = wide n ∷ []

-- an item of eight bytes
abbrev pub a_number : ℤ → List Item
a_number n = number n ∷ []

-- a step after a test that didn't fail
pub unless : {Z : Type 0} (b : Bool) (d : Broken) (z : Result Z Broken) (y : Z) → cond b (Err d) z ≡ Ok y → (b ≡ false) × (z ≡ Ok y)
unless true d z y e = absurd cc
unless false d z y e = (refl, e)

-- the input ended, or another fault
pub until : {Z : Type 0} (b : Bool) (d : Broken) (z : Result Z Broken) (f : Broken) → cond b (Err d) z ≡ Err f → ((b ≡ true) × (d ≡ f)) ⊎ ((b ≡ false) × (z ≡ Err f))
until true d z f e = inl (refl, cc)
until false d z f e = inr (refl, e)

-- this many bytes at the start are taken
pub front_of : (k : ℕ) (bytes : List ℕ) (text : Item) → IsBytes bytes → text ≡ take k bytes → Takes bytes (concat (text ∷ [])) (drop k bytes)
front_of k bytes text fits e = record {
  parts = sym (take-append-drop k bytes) ∙ ap (λ (t : List ℕ). t ++ drop k bytes) (sym e ∙ sym (append-nil text));
  rest_fits = IsBytes-drop k bytes fits;
}

-- fewer bytes are left than the item that is due has
pub cut_off : {A : Type 0} {F : A → Type 0} {w : A → List Item} (bytes : List ℕ) (size : ℕ) (f : Broken) (some : A) → F some → (item : Item) → w some ≡ item ∷ [] → length item ≡ size → ltb (length bytes) size ≡ true → ended ≡ f → Lacks F w bytes f
cut_off bytes size f some fits item spelled len test is = record {
  before = [];
  part = bytes;
  size = size;
  parts = refl;
  is = sym is;
  due = record { value = some; fits = fits; done = []; next = item; later = []; items = spelled; joined = refl; size_is = len };
  short = ltb-true _ _ test;
}

-- ---- two bytes

wide_of_text : (low high : ℕ) (text rest : List ℕ) → length text ≡ 2 → is_within low high (from_be_bytes w16 text) ≡ true → wide_at low high (text ++ rest) ≡ Ok (from_be_bytes w16 text, rest)
unfolding wide_at
wide_of_text low high text rest len ok =
    let long : ltb (length (text ++ rest)) 2 ≡ false = le-ltb _ _ (omega (arith, length-append text rest)) in
    rw (long, take_at text rest 2 len, drop_at text rest 2 len, ok) refl

wide_wrong : (low high : ℕ) (text rest : List ℕ) → length text ≡ 2 → is_within low high (from_be_bytes w16 text) ≡ false → wide_at low high (text ++ rest) ≡ Err (record { no = Limit; left = length (text ++ rest) })
unfolding wide_at
wide_wrong low high text rest len bad =
    let long : ltb (length (text ++ rest)) 2 ≡ false = le-ltb _ _ (omega (arith, length-append text rest)) in
    rw (long, take_at text rest 2 len, bad) refl

wide_format : (low high : ℕ) → high < 2 ^ 16 → IsFormat (IsWithin low high) a_wide (wide_at low high)
unfolding wide_at
wide_format low high small = record { takes = takes; again = again } where
  takes : (bytes : List ℕ) (x : ℕ) (rest : List ℕ) → IsBytes bytes → wide_at low high bytes ≡ Ok (x, rest) → Takes bytes (concat (a_wide x)) rest × IsWithin low high x
  takes bytes x rest fits e =
      let long = unless (ltb (length bytes) 2) _ (cond (is_within low high (from_be_bytes w16 (take 2 bytes))) (Ok (from_be_bytes w16 (take 2 bytes), drop 2 bytes)) (wrong Limit bytes)) (x, rest) e in
      let g = passed (is_within low high (from_be_bytes w16 (take 2 bytes))) _ (from_be_bytes w16 (take 2 bytes), drop 2 bytes) (x, rest) long.1 in
      let enough : 2 ≤ length bytes = ltb-false _ _ long.0 in
      let text : wide (from_be_bytes w16 (take 2 bytes)) ≡ take 2 bytes = be_bytes_2 (take 2 bytes) _ (omega (arith, length-take 2 bytes)) (IsBytes-take 2 bytes fits) refl in
      subst (λ (y : ℕ × List ℕ). Takes bytes (concat (a_wide y.0)) y.1 × IsWithin low high y.0) g.1 (front_of 2 bytes _ fits text, within-true low high _ g.0)

  again : (x : ℕ) (rest : List ℕ) → IsWithin low high x → wide_at low high (concat (a_wide x) ++ rest) ≡ Ok (x, rest)
  again x rest h =
      let back : from_be_bytes w16 (wide x) ≡ x = from_be_bytes-to_be_bytes_2 x (omega (arith, h.1)) in
      wide_of_text low high (wide x) rest refl (ap (λ n. is_within low high n) back ∙ is_within-true low high x h) ∙ ap (λ z. Ok (z, rest)) back

pub wide_strict : (low high : ℕ) → low ≤ high → high < 2 ^ 16 → IsStrict (IsWithin low high) a_wide (wide_at low high)
unfolding wide_at
wide_strict low high le small = record { format = wide_format low high small; some = low; some_fits = (omega arith, le); fails = fails } where
  fails : (bytes : List ℕ) (f : Broken) → IsBytes bytes → wide_at low high bytes ≡ Err f → FailsAt (IsWithin low high) a_wide (wide_at low high) bytes f
  fails bytes f fits e =
      let n = from_be_bytes w16 (take 2 bytes) in
      elim (until (ltb (length bytes) 2) ended (cond (is_within low high n) (Ok (n, drop 2 bytes)) (wrong Limit bytes)) f e) [
        | inl h ↦ inl (cut_off bytes 2 f low (omega arith, le) (wide low) refl refl h.0 h.1)
        | inr h ↦
            let g = refused (is_within low high n) (n, drop 2 bytes) (record { no = Limit; left = length bytes }) f h.1 in
            let enough : 2 ≤ length bytes = ltb-false _ _ h.0 in
            let len : length (take 2 bytes) ≡ 2 = omega (arith, length-take 2 bytes) in
            inr (record {
              before = [];
              item = take 2 bytes;
              after = drop 2 bytes;
              parts = sym (take-append-drop 2 bytes);
              left = ap (λ (d : Broken). d.left) (sym g.1) ∙ ap length (sym (take-append-drop 2 bytes));
              of_item = subst (λ (d : Broken). IsOfItem d.no) g.1 tt;
              due = record { value = low; fits = (omega arith, le); done = []; next = wide low; later = []; items = refl; joined = refl; size_is = sym len };
              stops = λ rest. wide_wrong low high (take 2 bytes) rest len g.0 ∙ ap (λ (k : FaultNo). Err (record { no = k; left = length (take 2 bytes ++ rest) })) (ap (λ (d : Broken). d.no) g.1);
            })
      ]

-- ---- eight bytes

number_of_text : (text rest : List ℕ) → length text ≡ 8 → number_at (text ++ rest) ≡ Ok (cast_signed w64 (from_be_bytes w64 text), rest)
unfolding number_at
number_of_text text rest len =
    let long : ltb (length (text ++ rest)) 8 ≡ false = le-ltb _ _ (omega (arith, length-append text rest)) in
    rw (long, take_at text rest 8 len, drop_at text rest 8 len) refl

number_format : IsFormat (FitsSigned w64) a_number number_at
unfolding number_at
number_format = record { takes = takes; again = again } where
  takes : (bytes : List ℕ) (x : ℤ) (rest : List ℕ) → IsBytes bytes → number_at bytes ≡ Ok (x, rest) → Takes bytes (concat (a_number x)) rest × FitsSigned w64 x
  takes bytes x rest fits e =
      let long = unless (ltb (length bytes) 8) _ (Ok (cast_signed w64 (from_be_bytes w64 (take 8 bytes)), drop 8 bytes)) (x, rest) e in
      let enough : 8 ≤ length bytes = ltb-false _ _ long.0 in
      let bytes_fit = IsBytes-take 8 bytes fits in
      let below : from_be_bytes w64 (take 8 bytes) < 2 ^ 64 = omega (arith, bytes_fit 0, bytes_fit 1, bytes_fit 2, bytes_fit 3, bytes_fit 4, bytes_fit 5, bytes_fit 6, bytes_fit 7) in
      let text : number (cast_signed w64 (from_be_bytes w64 (take 8 bytes))) ≡ take 8 bytes =
      ap (λ n. to_be_bytes w64 n) (of_z-to_z w64 (from_be_bytes w64 (take 8 bytes)) below) ∙ be_bytes_8 (take 8 bytes) _ (omega (arith, length-take 8 bytes)) bytes_fit refl in
      subst (λ (y : ℤ × List ℕ). Takes bytes (concat (a_number y.0)) y.1 × FitsSigned w64 y.0) (ok_is (cast_signed w64 (from_be_bytes w64 (take 8 bytes)), drop 8 bytes) (x, rest) long.1)
      (front_of 8 bytes _ fits text, sfits_to_z (record { fits = below }))

  again : (x : ℤ) (rest : List ℕ) → FitsSigned w64 x → number_at (concat (a_number x) ++ rest) ≡ Ok (x, rest)
  again x rest h =
      let back : from_be_bytes w64 (number x) ≡ cast_unsigned w64 x = from_be_bytes-to_be_bytes_8 (cast_unsigned w64 x) (omega (arith, Fits-of_z h)) in
      number_of_text (number x) rest refl ∙ ap (λ z. Ok (z, rest)) (ap (λ n. cast_signed w64 n) back ∙ to_z-of_z w64 x h)

pub number_strict : IsStrict (FitsSigned w64) a_number number_at
unfolding number_at
number_strict = record { format = number_format; some = zero_number; some_fits = zero_fits; fails = fails } where
  zero_number : ℤ
  zero_number = cast_signed w64 0

  zero_fits : FitsSigned w64 zero_number
  zero_fits = sfits_to_z {n = 0} (record { fits = lit< tt })

  fails : (bytes : List ℕ) (f : Broken) → IsBytes bytes → number_at bytes ≡ Err f → FailsAt (FitsSigned w64) a_number number_at bytes f
  fails bytes f fits e =
      elim (until (ltb (length bytes) 8) ended (Ok (cast_signed w64 (from_be_bytes w64 (take 8 bytes)), drop 8 bytes)) f e) [
        | inl h ↦ inl (cut_off bytes 8 f zero_number zero_fits (number zero_number) refl refl h.0 h.1)
        | inr h ↦ absurd (no_err _ f h.1)
      ]
