-- How a visible text is made, character by character, and that it hides nothing.
use Rattle.std.proofs.Common.{◌≡◌, ◌==◌, ◌||◌, ◌&&◌, ◌++◌, ◌∷◌, ◌+◌, ◌/◌, ◌%◌, ◌<◌, ◌≤◌, ◌∙◌, [], ℕ, List, Bool, IsUtf8, ap, append-nil, arith, chars, cond, encode_utf8, encode_utf8_all, false, length, nat_lt, not, refl, subst, sym, true}
use Rattle.std.proofs.lemmas.Grind.{common_steps}
use Rattle.std.proofs.lemmas.List.{nil_from_length}
use Rattle.std.proofs.lemmas.List.Folds.{list_all-append}
use Rattle.std.proofs.lemmas.Str.{chars-nil, chars_past_char, encodes-append}
use Rattle.std.specs.Char.{digit_char}
use Rattle.std.specs.Char.Escape.{escape_unicode, hex_digit_at}
use Rattle.std.specs.List.{flat_map, list_all}
use Rattle.tw_visible.specs.Visible.{HidesNothing, escape, is_hidden, json_escape, printed, printed_character}
use Rattle.tw_visible.specs.declared.characters.Kind.{Kind}
use Rattle.tw_visible.specs.declared.characters.Kind.TheVariants.{Lines, Json}

pub printed_none : (kind : Kind) (text : List ℕ) → length text ≡ 0 → printed kind text ≡ []
unfolding printed
printed_none kind text none = ap (λ (t : List ℕ). encode_utf8_all (flat_map (printed_character kind) (chars t))) (nil_from_length text none) ∙ ap (λ (cs : List ℕ). encode_utf8_all (flat_map (printed_character kind) cs)) chars-nil

pub printed_step : (kind : Kind) (text rest : List ℕ) (c : ℕ) → IsUtf8 text → text ≡ encode_utf8 c ++ rest
    → printed kind text ≡ encode_utf8_all (printed_character kind c) ++ printed kind rest
unfolding printed
printed_step kind text rest c utf8 parts = rw (chars_past_char text rest c utf8 parts, encodes-append)

pub printed_whole : (kind : Kind) (text rest out : List ℕ) → length rest ≡ 0 → out ++ printed kind rest ≡ printed kind text → out ≡ printed kind text
printed_whole kind text rest out none is = sym (append-nil out) ∙ ap (λ (t : List ℕ). out ++ t) (sym (printed_none kind rest none)) ∙ is

-- returns whether a character is printed as it is
abbrev pub is_seen : ℕ → Bool
is_seen c = not (is_hidden c)

ascii_seen : (c : ℕ) → 31 < c → c < 127 → is_seen c ≡ true
ascii_seen c low high = grind (arith, common_steps)

digit_seen : (d : ℕ) → d < 16 → is_seen (digit_char d) ≡ true
digit_seen d small = ascii_seen (digit_char d) (grind (arith, common_steps)) (grind (arith, common_steps))

hex_seen : (p c : ℕ) → is_seen (hex_digit_at p c) ≡ true
hex_seen p c = digit_seen (c / p % 16) (grind (arith, common_steps))

-- characters that are all printed as they are
record AreSeen (cs : List ℕ) : Type 0 where
  pub are : list_all is_seen cs ≡ true

none_seen : AreSeen []
none_seen = record { are = refl }

seen_after : (c : ℕ) (cs : List ℕ) → is_seen c ≡ true → AreSeen cs → AreSeen (c ∷ cs)
seen_after c cs first others = record { are = rw (first, others.are) refl }

seen_either : (b : Bool) (xs ys : List ℕ) → AreSeen xs → AreSeen ys → AreSeen (cond b xs ys)
seen_either true xs ys left right = left
seen_either false xs ys left right = right

digit_before : (p c : ℕ) (cs : List ℕ) → AreSeen cs → AreSeen (hex_digit_at p c ∷ cs)
digit_before p c cs = seen_after (hex_digit_at p c) cs (hex_seen p c)

in_braces : (ds : List ℕ) → AreSeen ds → AreSeen (92 ∷ 117 ∷ 123 ∷ ds)
in_braces ds are = seen_after 92 (117 ∷ 123 ∷ ds) refl (seen_after 117 (123 ∷ ds) refl (seen_after 123 ds refl are))

code_seen : (c : ℕ) → AreSeen (escape_unicode c)
code_seen c =
    let one = digit_before 1 c (125 ∷ []) (seen_after 125 [] refl none_seen) in
    let two = digit_before 0x10 c _ one in
    let three = digit_before 0x100 c _ two in
    let four = digit_before 0x1000 c _ three in
    let five = digit_before 0x1_0000 c _ four in
    let six = digit_before 0x10_0000 c _ five in
    seen_either (nat_lt c 0x10) _ _ (in_braces _ one)
    (seen_either (nat_lt c 0x100) _ _ (in_braces _ two)
    (seen_either (nat_lt c 0x1000) _ _ (in_braces _ three)
    (seen_either (nat_lt c 0x1_0000) _ _ (in_braces _ four) (seen_either (nat_lt c 0x10_0000) _ _ (in_braces _ five) (in_braces _ six)))))

json_seen : (c : ℕ) → AreSeen (json_escape c)
json_seen c =
    let digits = digit_before 0x1000 c _ (digit_before 0x100 c _ (digit_before 0x10 c _ (digit_before 1 c [] none_seen))) in
    seen_after 92 _ refl (seen_after 117 _ refl digits)

escape_seen : (kind : Kind) (c : ℕ) → AreSeen (escape kind c)
escape_seen Lines c = seen_either (c == 9) _ _ (seen_after 32 [] refl none_seen) (code_seen c)
escape_seen Json c = json_seen c

seen_or_escaped : (b : Bool) (c : ℕ) (xs : List ℕ) → is_hidden c ≡ b → AreSeen xs → AreSeen (cond b xs (c ∷ []))
seen_or_escaped true c xs is are = are
seen_or_escaped false c xs is are = seen_after c [] (ap not is) none_seen

character_seen : (kind : Kind) (c : ℕ) → AreSeen (printed_character kind c)
character_seen kind c = seen_or_escaped (is_hidden c) c (escape kind c) refl (escape_seen kind c)

all_seen : (kind : Kind) (cs : List ℕ) → list_all is_seen (flat_map (printed_character kind) cs) ≡ true
all_seen kind [] = refl
all_seen kind (c ∷ cs) = rw (list_all-append is_seen (printed_character kind c) (flat_map (printed_character kind) cs), (character_seen kind c).are, all_seen kind cs) refl

pub nothing_is_hidden : (kind : Kind) (text : List ℕ) → HidesNothing (printed kind text)
unfolding printed
nothing_is_hidden kind text = (flat_map (printed_character kind) (chars text), refl, all_seen kind (chars text))

pub hides_nothing : (kind : Kind) (text shown : List ℕ) → shown ≡ printed kind text → HidesNothing shown
hides_nothing kind text shown is = subst HidesNothing (sym is) (nothing_is_hidden kind text)
