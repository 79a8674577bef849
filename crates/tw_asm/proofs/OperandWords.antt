-- Reading single words.
use Rattle.std.proofs.Common.{◌≡◌, ◌==◌, ℕ, ◌≤◌, Bool, true, false, cond, List, [], ◌∷◌, length, codes, Option, Some, None, Ok, Err, refl, sym, ap, subst, ◌∙◌, arith}
use Rattle.tw_asm.proofs.AsmNames.{Bare, Closed, Control, EncodesDigits, EncodesNumber, EncodesPart, EncodesWith, FitsSigned, Five, Form, Four, IsIn64, IsInRange, IsRegister, IsSubscriptOf, IsTarget, IsUtf8, IsWithin, Leaf, Limit, Literal, Natural, NoName, Number, One, Part, Quoted, Reads, Ref, Right, Scalar, Target, Two, Val, Value, Version, Word, Write, as_is, bytes_eq, bytes_eq-Decides, carried, container_in, container_word, digits_in, digits_read, eqb-true, has_maps, is_sum, kind_word, literal_in, ltb-true, map_in, map_word, map_word_in, mode_in, mode_word, nat_lt, nat_tests, natural_in, number_in, register_in, scalar_in, scalar_word, signed_in, signed_read, sum_word, target_in, text_container, w64}
use Rattle.tw_asm.proofs.Readings.{likewise}
use Rattle.tw_asm.proofs.TypeWords.{other_bytes}
use Rattle.tw_asm.specs.reading.Lines.{Content, Operand, kind_in, literal, natural, number, operand_in, right, target, value}
use Rattle.tw_types.specs.Text.{IsText}
use Rattle.tw_types.specs.declared.data_type.Scalar.TheVariants as scalar

-- holds if the text between quotes is UTF-8
abbrev pub IsFine : Word → Type 0
IsFine (Bare text) = Unit {0}
IsFine (Quoted text) = IsUtf8 text

abbrev pub part_of : (o : Operand) → Content o → Part
part_of value c = Value c
part_of right c = Right c
part_of number c = Number c
part_of (natural low high) c = Natural c
part_of literal c = Literal c
part_of target c = Target c

abbrev pub May : (o : Operand) → Content o → Type 0
May value c = IsRegister c
May right c = IsRegister c
May number c = FitsSigned w64 c
May (natural low high) c = IsWithin low high c
May literal c = IsText c
May target c = IsTarget c

abbrev pub Has : (o : Operand) → Word → Content o → Type 0
Has o w c = EncodesPart NoName (part_of o c) (w ∷ [])

no : false ≡ true → ⊥
no e = cc

pub apart : (b c : ℕ) → (b == c) ≡ false → b ≡ c → ⊥
apart b c e is = grind (arith, nat_tests)

pub register_read : (letter : ℕ) (w : Word) → Reads (λ n. EncodesWith (letter ∷ []) n (w ∷ [])) IsRegister (register_in letter w)
register_read letter (Quoted text) = λ n h. none h.0 h.2
  where
    none : (digits : List ℕ) → Quoted text ∷ [] ≡ Bare (letter ∷ digits) ∷ [] → ⊥
    none digits e = cc
register_read letter (Bare []) = λ n h. none h.0 h.2
  where
    none : (digits : List ℕ) → Bare [] ∷ [] ≡ Bare (letter ∷ digits) ∷ [] → ⊥
    none digits e = cc
register_read letter (Bare (b ∷ rest)) = by (b == letter) refl
  where
    tail_is : (digits : List ℕ) → Bare (b ∷ rest) ∷ [] ≡ Bare (letter ∷ digits) ∷ [] → digits ≡ rest
    tail_is digits e = cc

    head_is : (digits : List ℕ) → Bare (b ∷ rest) ∷ [] ≡ Bare (letter ∷ digits) ∷ [] → b ≡ letter
    head_is digits e = cc

    by : (t : Bool) → (b == letter) ≡ t → Reads (λ n. EncodesWith (letter ∷ []) n (Bare (b ∷ rest) ∷ [])) IsRegister (cond t (digits_in 0 15 rest) (Err Form))
    by true is =
        likewise (λ n. EncodesDigits n rest) (IsInRange 0 15) (λ n. EncodesWith (letter ∷ []) n (Bare (b ∷ rest) ∷ [])) IsRegister
        (λ n h. (rest, h, ap (λ (c : ℕ). Bare (c ∷ rest) ∷ []) (eqb-true b letter is))) (λ n h. subst (EncodesDigits n) (tail_is h.0 h.2) h.1)
        (λ n h m. m) (λ n h m. m) (digits_in 0 15 rest) (digits_read 0 15 rest)
    by false is = λ n h. apart b letter is (head_is h.0 h.2)

bare_is : (text digits : List ℕ) → Bare text ∷ [] ≡ Bare digits ∷ [] → digits ≡ text
bare_is text digits e = cc

not_bare : (text digits : List ℕ) → Quoted text ∷ [] ≡ Bare digits ∷ [] → ⊥
not_bare text digits e = cc

pub natural_read : (low high : ℕ) (w : Word) → Reads (λ n. EncodesWith [] n (w ∷ [])) (IsWithin low high) (natural_in low high w)
natural_read low high (Quoted text) = λ n h. not_bare text h.0 h.2
natural_read low high (Bare text) =
    likewise (λ n. EncodesDigits n text) (IsInRange low high) (λ n. EncodesWith [] n (Bare text ∷ [])) (IsWithin low high)
    (λ n h. (text, h, refl)) (λ n h. subst (EncodesDigits n) (bare_is text h.0 h.2) h.1) (λ n h m. m) (λ n h m. m) (digits_in low high text) (digits_read low high text)

number_read : (w : Word) → Reads (Has number w) (May number) (number_in w)
number_read (Quoted text) = λ n h. not_bare text h.0 h.2
number_read (Bare text) =
    likewise (λ n. EncodesNumber n text) IsIn64 (Has number (Bare text)) (May number)
    (λ n h. (text, h, refl)) (λ n h. subst (EncodesNumber n) (bare_is text h.0 h.2) h.1) (λ n h m. m) (λ n h m. m) (signed_in text) (signed_read text)

literal_read : (w : Word) → IsFine w → Reads (Has literal w) (May literal) (literal_in w)
literal_read (Bare text) fine = λ c e. none c e
  where
    none : (c : List ℕ) → Bare text ∷ [] ≡ Quoted c ∷ [] → ⊥
    none c e = cc
literal_read (Quoted text) fine = by (nat_lt 4096 (length text)) refl
  where
    text_is : (c : List ℕ) → Quoted text ∷ [] ≡ Quoted c ∷ [] → c ≡ text
    text_is c e = cc

    short : nat_lt 4096 (length text) ≡ false → length text ≤ 4096
    short e = grind (arith, nat_tests)

    by : (t : Bool) → nat_lt 4096 (length text) ≡ t → Reads (Has literal (Quoted text)) (May literal) (cond t (Err Limit) (Ok text))
    by true long = ((text, refl), λ c e m. absurd (omega (arith, ltb-true 4096 (length text) long, subst (λ (t : List ℕ). length t ≤ 4096) (text_is c e) m.short)))
    by false is = (refl, record { short = short is; utf8 = fine })

target_read : (w : Word) → Reads (Has target w) (May target) (target_in w)
target_read (Quoted text) = λ c h. none c h
  where
    none : (c : Option ℕ) → EncodesPart NoName (Target c) (Quoted text ∷ []) → ⊥
    none None e = not_bare text (codes "any") e
    none (Some n) h = not_bare text h.0 h.2
target_read (Bare text) = by (bytes_eq text (codes "any")) refl
  where
    some : bytes_eq text (codes "any") ≡ false → (c : Option ℕ) → EncodesPart NoName (Target c) (Bare text ∷ []) → (n : ℕ) × EncodesWith [] n (Bare text ∷ []) × (c ≡ Some n)
    some isnt None e = absurd (no (sym isnt ∙ (bytes_eq-Decides text (codes "any")).1 (sym (bare_is text (codes "any") e))))
    some isnt (Some n) h = (n, h, refl)

    by : (t : Bool) → bytes_eq text (codes "any") ≡ t → Reads (Has target (Bare text)) (May target) (cond t (Ok None) (as_is (λ n. Some n) (digits_in 0 15 text)))
    by true is = (ap (λ (t : List ℕ). Bare t ∷ []) ((bytes_eq-Decides text (codes "any")).0 is), tt)
    by false isnt =
        carried (λ n. Some n) (λ n. EncodesWith [] n (Bare text ∷ [])) (IsWithin 0 15) (Has target (Bare text)) (May target)
        (λ n h. h) (some isnt) (λ n h m. m) (λ n h m. m) (digits_in 0 15 text) (natural_read 0 15 (Bare text))

pub operand_read : (o : Operand) (w : Word) → IsFine w → Reads (Has o w) (May o) (operand_in o w)
operand_read value w fine = register_read 118 w
operand_read right w fine = register_read 100 w
operand_read number w fine = number_read w
operand_read (natural low high) w fine = natural_read low high w
operand_read literal w fine = literal_read w fine
operand_read target w fine = target_read w

-- ---- fixed words

abbrev pub Free : {A : Type 0} → A → Type 0
Free a = Unit {0}

same_bytes : (text word : List ℕ) → bytes_eq text word ≡ true → Bare text ≡ Bare word
same_bytes text word is = ap (λ (t : List ℕ). Bare t) ((bytes_eq-Decides text word).0 is)

quoted_apart : (text word : List ℕ) → Quoted text ≡ Bare word → ⊥
quoted_apart text word e = cc

pub scalar_read : (w : Word) → Reads (λ s. w ≡ Bare (scalar_word s)) Free (scalar_in w)
scalar_read (Quoted text) = λ s e. quoted_apart text (scalar_word s) e
scalar_read (Bare text) = by (bytes_eq text (codes "int")) (bytes_eq text (codes "text")) refl refl
  where
    by : (i t : Bool) → bytes_eq text (codes "int") ≡ i → bytes_eq text (codes "text") ≡ t
        → Reads (λ s. Bare text ≡ Bare (scalar_word s)) Free (cond i (Ok scalar.Int) (cond t (Ok scalar.Text) (Err Form)))
    by true t is _ = (same_bytes text (codes "int") is, tt)
    by false true _ is = (same_bytes text (codes "text") is, tt)
    by false false no_int no_text = elim [ scalar.Int ↦ other_bytes text (codes "int") no_int | scalar.Text ↦ other_bytes text (codes "text") no_text ]

pub kind_read : (w : Word) → Reads (λ k. w ≡ Bare (kind_word k)) Free (kind_in w)
kind_read (Quoted text) = λ k e. quoted_apart text (kind_word k) e
kind_read (Bare text) = by (bytes_eq text (codes "control")) (bytes_eq text (codes "leaf")) refl refl
  where
    by : (i t : Bool) → bytes_eq text (codes "control") ≡ i → bytes_eq text (codes "leaf") ≡ t
        → Reads (λ k. Bare text ≡ Bare (kind_word k)) Free (cond i (Ok Control) (cond t (Ok Leaf) (Err Form)))
    by true t is _ = (same_bytes text (codes "control") is, tt)
    by false true _ is = (same_bytes text (codes "leaf") is, tt)
    by false false no_control no_leaf = elim [ Control ↦ other_bytes text (codes "control") no_control | Leaf ↦ other_bytes text (codes "leaf") no_leaf ]

pub mode_read : (w : Word) → Reads (λ m. w ≡ Bare (mode_word m)) Free (mode_in w)
mode_read (Quoted text) = λ m e. quoted_apart text (mode_word m) e
mode_read (Bare text) = by (bytes_eq text (codes "val")) (bytes_eq text (codes "closed")) (bytes_eq text (codes "ref")) (bytes_eq text (codes "write")) refl refl refl refl
  where
    by : (a b c d : Bool) → bytes_eq text (codes "val") ≡ a → bytes_eq text (codes "closed") ≡ b → bytes_eq text (codes "ref") ≡ c → bytes_eq text (codes "write") ≡ d
        → Reads (λ m. Bare text ≡ Bare (mode_word m)) Free (cond a (Ok Val) (cond b (Ok Closed) (cond c (Ok Ref) (cond d (Ok Write) (Err Form)))))
    by true b c d is _ _ _ = (same_bytes text (codes "val") is, tt)
    by false true c d _ is _ _ = (same_bytes text (codes "closed") is, tt)
    by false false true d _ _ is _ = (same_bytes text (codes "ref") is, tt)
    by false false false true _ _ _ is = (same_bytes text (codes "write") is, tt)
    by false false false false no_val no_closed no_ref no_write = elim [
      | Val ↦ other_bytes text (codes "val") no_val
      | Closed ↦ other_bytes text (codes "closed") no_closed
      | Ref ↦ other_bytes text (codes "ref") no_ref
      | Write ↦ other_bytes text (codes "write") no_write
    ]

-- holds for the word of a container that the version has
abbrev pub IsContainerOf : Version → Word → Scalar → Type 0
IsContainerOf version w by = (w ≡ Bare (container_word by)) × IsSubscriptOf version by

pub container_read : (version : Version) (w : Word) → Reads (IsContainerOf version w) Free (container_in version w)
container_read version (Quoted text) = λ by h. quoted_apart text (container_word by) h.0
container_read version (Bare text) = each (bytes_eq text (codes "cont")) (bytes_eq text (codes "tcont")) refl refl version
  where
    only_cont : bytes_eq text (codes "cont") ≡ false → (by : Scalar) → IsContainerOf One (Bare text) by → ⊥
    only_cont isnt scalar.Int h = other_bytes text (codes "cont") isnt h.0
    only_cont isnt scalar.Text h = h.1

    none : bytes_eq text (codes "cont") ≡ false → bytes_eq text (codes "tcont") ≡ false → (by : Scalar) → Bare text ≡ Bare (container_word by) → ⊥
    none isnt other scalar.Int e = other_bytes text (codes "cont") isnt e
    none isnt other scalar.Text e = other_bytes text (codes "tcont") other e

    each : (i t : Bool) → bytes_eq text (codes "cont") ≡ i → bytes_eq text (codes "tcont") ≡ t → (v : Version)
        → Reads (IsContainerOf v (Bare text)) Free (cond i (Ok scalar.Int) (cond t (text_container v) (Err Form)))
    each true t is other v = ((same_bytes text (codes "cont") is, tt), tt)
    each false true isnt is One = only_cont isnt
    each false true isnt is Two = ((same_bytes text (codes "tcont") is, tt), tt)
    each false true isnt is Four = ((same_bytes text (codes "tcont") is, tt), tt)
    each false true isnt is Five = ((same_bytes text (codes "tcont") is, tt), tt)
    each false false isnt other v = λ by h. none isnt other by h.0

-- holds for the word of a map, in a version with maps
abbrev pub IsMapWordOf : Version → Word → Scalar → Type 0
IsMapWordOf version w by = (w ≡ Bare (map_word by)) × (has_maps version ≡ true)

pub map_read : (version : Version) (w : Word) → Reads (IsMapWordOf version w) Free (map_in version w)
map_read version w = in_version (has_maps version)
  where
    word_read : (v : Word) → Reads (λ by. (v ≡ Bare (map_word by)) × (true ≡ true)) Free (map_word_in v)
    word_read (Quoted text) = λ by h. quoted_apart text (map_word by) h.0
    word_read (Bare text) = each (bytes_eq text (codes "map")) (bytes_eq text (codes "tmap")) refl refl
      where
        none : bytes_eq text (codes "map") ≡ false → bytes_eq text (codes "tmap") ≡ false → (by : Scalar) → Bare text ≡ Bare (map_word by) → ⊥
        none isnt other scalar.Int e = other_bytes text (codes "map") isnt e
        none isnt other scalar.Text e = other_bytes text (codes "tmap") other e

        each : (i t : Bool) → bytes_eq text (codes "map") ≡ i → bytes_eq text (codes "tmap") ≡ t → Reads (λ by. (Bare text ≡ Bare (map_word by)) × (true ≡ true)) Free (cond i (Ok scalar.Int) (cond t (Ok scalar.Text) (Err Form)))
        each true t is other = ((same_bytes text (codes "map") is, refl), tt)
        each false true isnt is = ((same_bytes text (codes "tmap") is, refl), tt)
        each false false isnt other = λ by h. none isnt other by h.0

    older : false ≡ true → ⊥
    older e = cc

    in_version : (has : Bool) → Reads (λ by. (w ≡ Bare (map_word by)) × (has ≡ true)) Free (cond has (map_word_in w) (Err Form))
    in_version true = word_read w
    in_version false = λ by h. older h.1

pub sum_is : (w : Word) → is_sum w ≡ true → w ≡ Bare (sum_word scalar.Int)
sum_is (Bare text) e = same_bytes text (codes "sum") e
sum_is (Quoted text) e = absurd cc

pub sum_isnt : (w : Word) → is_sum w ≡ false → w ≡ Bare (sum_word scalar.Int) → ⊥
sum_isnt (Bare text) e is = other_bytes text (codes "sum") e is
sum_isnt (Quoted text) e is = quoted_apart text (codes "sum") is
