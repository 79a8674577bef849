-- Texts without characters that control a terminal or change the direction of text.
use Rattle.std.specs.Prelude.{◌≡◌, ◌==◌, ◌||◌, ◌&&◌, ℕ, Bool, true, not, List, [], ◌∷◌, chars, encode_utf8_all, if◌then◌else◌}
use Rattle.std.specs.Char.{is_control}
use Rattle.std.specs.Char.Escape.{escape_unicode, hex_digit_at}
use Rattle.std.specs.Int.{is_in_range}
use Rattle.std.specs.List.{flat_map, list_all}
use Rattle.std.specs.Str.Lossy.{utf8_lossy}
use Rattle.tw_visible.specs.declared.characters.Kind.{Kind}
use Rattle.tw_visible.specs.declared.characters.Kind.TheVariants.{Lines, Json}

-- returns whether it is a mark of direction, or an embedding, an override or an isolate of a direction
abbrev pub changes_direction : ℕ → Bool
changes_direction c = c == 0x61C || (is_in_range 0x200E 0x200F c || (is_in_range 0x202A 0x202E c || is_in_range 0x2066 0x2069 c))

-- returns whether a character isn't printed as it is: control characters except a line feed, and what changes the direction
abbrev pub is_hidden : ℕ → Bool
is_hidden c = changes_direction c || (is_control c && not (c == 10))

-- returns an escape of JSON for a character of 16 bits
abbrev pub json_escape : ℕ → List ℕ
json_escape c = 92 ∷ 117 ∷ hex_digit_at 0x1000 c ∷ hex_digit_at 0x100 c ∷ hex_digit_at 0x10 c ∷ hex_digit_at 1 c ∷ []

-- returns what is printed for a hidden character: `\u{..}` and a blank for a tab, or in JSON `\u....`
abbrev pub escape : Kind → ℕ → List ℕ
escape Lines c = if c == 9 then 32 ∷ [] else escape_unicode c
escape Json c = json_escape c

abbrev pub printed_character : Kind → ℕ → List ℕ
printed_character kind c = if is_hidden c then escape kind c else c ∷ []

-- returns what is printed of a text
unfoldable pub printed : Kind → List ℕ → List ℕ
printed kind text = encode_utf8_all (flat_map (printed_character kind) (chars text))

-- returns what is printed of bytes; what isn't UTF-8 is replaced first
abbrev pub visible : Kind → List ℕ → List ℕ
visible kind bytes = printed kind (utf8_lossy bytes)

abbrev pub visible_bytes : List ℕ → List ℕ
visible_bytes bytes = visible Lines bytes

-- holds for a text without hidden characters
abbrev pub HidesNothing : List ℕ → Type 0
HidesNothing text = (cs : List ℕ) × (text ≡ encode_utf8_all cs) × (list_all (λ c. not (is_hidden c)) cs ≡ true)
