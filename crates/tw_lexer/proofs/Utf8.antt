-- A quoted text in UTF-8 is UTF-8, and so is the rest after it.
use Rattle.std.proofs.Common.{◌≡◌, ℕ, zero, suc, ◌+◌, ◌*◌, ◌<◌, List, [], ◌∷◌, ◌++◌, length, get_or, drop, Some, refl, sym, ap, subst, ◌∙◌, append_assoc, arith}
use Rattle.std.specs.Prelude.{IsUtf8}
use Rattle.std.specs.Char.{digit_value}
use Rattle.std.specs.Str.{IsCharBoundary, IsAscii}
use Rattle.std.proofs.lemmas.Bool.Decides.{nat_tests}
use Rattle.std.proofs.lemmas.List.{take_at, drop_at, append-nil, length-append, get_or_at}
use Rattle.std.proofs.lemmas.Str.{IsUtf8-drop, IsUtf8-take, IsUtf8-append, IsUtf8-from_ascii, IsCharBoundary-before_ascii, IsCharBoundary-after_ascii}
use Rattle.tw_lexer.specs.declared.escape.Escape.TheVariants.{Nothing}
use Rattle.tw_lexer.specs.Quoted.{IsInside, backslash, hex, line_feed, nothing, one_more, plain, quote}
use Rattle.tw_lexer.specs.reading.Inside.{inside_from}
use Rattle.tw_lexer.proofs.Insides.{found_inside}

pub one_ascii : (b : ℕ) → b < 128 → IsUtf8 (b ∷ [])
one_ascii b lt = IsUtf8-from_ascii (b ∷ []) ascii
  where
    ascii : IsAscii (b ∷ [])
    ascii zero = lt
    ascii (suc i) = omega arith

-- ---- a text may be cut around an ASCII byte

pub cut_front : (front : List ℕ) (b : ℕ) (rest : List ℕ) → b < 128 → IsUtf8 (front ++ b ∷ rest) → IsUtf8 front
cut_front front b rest lt u =
    let at : get_or (front ++ b ∷ rest) (length front) 0 ≡ b = get_or_at front b rest 0 (length front) refl in
    let len : length (front ++ b ∷ rest) ≡ length front + suc (length rest) = length-append front (b ∷ rest) in
    let boundary : IsCharBoundary (front ++ b ∷ rest) (length front) = IsCharBoundary-before_ascii (front ++ b ∷ rest) (length front) (omega (arith, len)) (omega (arith, at, lt)) in
    subst IsUtf8 (take_at front (b ∷ rest) (length front) refl) (IsUtf8-take (front ++ b ∷ rest) (length front) u boundary)

pub cut_rest : (front : List ℕ) (b : ℕ) (rest : List ℕ) → b < 128 → IsUtf8 (front ++ b ∷ rest) → IsUtf8 rest
cut_rest front b rest lt u =
    let at : get_or (front ++ b ∷ rest) (length front) 0 ≡ b = get_or_at front b rest 0 (length front) refl in
    let len : length (front ++ b ∷ rest) ≡ length front + suc (length rest) = length-append front (b ∷ rest) in
    let boundary : IsCharBoundary (front ++ b ∷ rest) (length front + 1) = IsCharBoundary-after_ascii (front ++ b ∷ rest) (length front) u (omega (arith, len)) (omega (arith, at, lt)) in
    let one : drop (length front + 1) (front ++ b ∷ rest) ≡ rest =
    ap (drop (length front + 1)) (sym (append_assoc front (b ∷ []) rest)) ∙ drop_at (front ++ b ∷ []) rest (length front + 1) (length-append front (b ∷ [])) in
    subst IsUtf8 one (IsUtf8-drop (front ++ b ∷ rest) (length front + 1) u boundary)

-- ---- texts between quotes

hex_small : (b : ℕ) → digit_value b < 16 → b < 128
hex_small b h = grind (arith, nat_tests)

-- an ASCII byte between texts
with_ascii : (front : List ℕ) (b : ℕ) (text : List ℕ) → b < 128 → IsUtf8 front → IsUtf8 text → IsUtf8 (front ++ b ∷ text)
with_ascii front b text lt f t = IsUtf8-append front (b ∷ text) f (IsUtf8-append (b ∷ []) text (one_ascii b lt) t)

inside_utf8 : (front text inside rest : List ℕ) → IsInside text inside → IsUtf8 (front ++ (inside ++ 34 ∷ rest)) → IsUtf8 (front ++ text) × IsUtf8 rest
inside_utf8 front _ _ rest nothing u = (subst IsUtf8 (sym (append-nil front)) (cut_front front 34 rest (omega arith) u), cut_rest front 34 rest (omega arith) u)
inside_utf8 front _ _ rest (one_more _ _ text inside (plain b _ _) i) u =
    let r = inside_utf8 (front ++ b ∷ []) text inside rest i (subst IsUtf8 (sym (append_assoc front (b ∷ []) (inside ++ 34 ∷ rest))) u) in
    (subst IsUtf8 (append_assoc front (b ∷ []) text) r.0, r.1)
inside_utf8 front _ _ rest (one_more _ _ text inside quote i) u =
    let r = inside_utf8 [] text inside rest i (cut_rest [] 34 (inside ++ 34 ∷ rest) (omega arith) (cut_rest front 92 (34 ∷ inside ++ 34 ∷ rest) (omega arith) u)) in
    (with_ascii front 34 text (omega arith) (cut_front front 92 (34 ∷ inside ++ 34 ∷ rest) (omega arith) u) r.0, r.1)
inside_utf8 front _ _ rest (one_more _ _ text inside backslash i) u =
    let r = inside_utf8 [] text inside rest i (cut_rest [] 92 (inside ++ 34 ∷ rest) (omega arith) (cut_rest front 92 (92 ∷ inside ++ 34 ∷ rest) (omega arith) u)) in
    (with_ascii front 92 text (omega arith) (cut_front front 92 (92 ∷ inside ++ 34 ∷ rest) (omega arith) u) r.0, r.1)
inside_utf8 front _ _ rest (one_more _ _ text inside line_feed i) u =
    let r = inside_utf8 [] text inside rest i (cut_rest [] 110 (inside ++ 34 ∷ rest) (omega arith) (cut_rest front 92 (110 ∷ inside ++ 34 ∷ rest) (omega arith) u)) in
    (with_ascii front 10 text (omega arith) (cut_front front 92 (110 ∷ inside ++ 34 ∷ rest) (omega arith) u) r.0, r.1)
inside_utf8 front _ _ rest (one_more _ _ text inside (hex h l high low) i) u =
    let first : h < 128 = hex_small h (omega (arith, high)) in
    let second : l < 128 = hex_small l low in
    let whole : 16 * digit_value h + digit_value l < 128 = omega (arith, high, low) in
    let r = inside_utf8 [] text inside rest i (cut_rest [] l (inside ++ 34 ∷ rest) second (cut_rest [] h (l ∷ inside ++ 34 ∷ rest) first (cut_rest [] 120 (h ∷ l ∷ inside ++ 34 ∷ rest) (omega arith) (cut_rest front 92 (120 ∷ h ∷ l ∷ inside ++ 34 ∷ rest) (omega arith) u)))) in
    (with_ascii front (16 * digit_value h + digit_value l) text whole (cut_front front 92 (120 ∷ h ∷ l ∷ inside ++ 34 ∷ rest) (omega arith) u) r.0, r.1)

pub inside_is_utf8 : (bytes text rest : List ℕ) → IsUtf8 (34 ∷ bytes) → inside_from Nothing bytes ≡ Some (text, rest) → IsUtf8 text × IsUtf8 rest
inside_is_utf8 bytes text rest u e =
    let r = found_inside bytes Nothing [] text rest refl e in
    inside_utf8 [] text r.inside rest r.is_inside (subst IsUtf8 r.parts (cut_rest [] 34 bytes (omega arith) u))
