-- The compact text of a JSON value has no line feed.
use Rattle.std.proofs.Common.{◌≡◌, ◌≢◌, ℕ, zero, suc, ◌+◌, ◌/◌, ◌%◌, ◌==◌, ◌||◌, Bool, true, false, nat_lt, List, [], ◌∷◌, ◌++◌, if◌then◌else◌, refl, subst, arith}
use Rattle.std.proofs.lemmas.List.Elements.{All-nil, All-cons, All-append}
use Rattle.std.specs.Char.{digit_char}
use Rattle.std.specs.Fmt.{digit_glyph, digits, digits_onto}
use Rattle.std.specs.List.{All}
use Rattle.std.specs.Prelude.{pos, negsuc, cond, decimal}
use Rattle.json.specs.Print.{escape, escape_byte, escape_letter, quoted}
use Rattle.serde_json.specs.Data.{Num, unsigned, negative, float, Data, null, boolean, number, string, array, object, Items, no_items, item, Members, no_members, member}
use Rattle.serde_json.specs.Written.{comma_if, compact_text, items_text, members_text, number_text}
use Rattle.tw_json_output.specs.Lines.{IsOneLine}
use Rattle.tw_json_output.specs.Run.{json_line}

abbrev IsClean : List ℕ → Type 0
IsClean text = All (λ byte. byte ≢ 10) text

no_byte : IsClean []
no_byte = All-nil (λ byte. byte ≢ 10)

more : (byte : ℕ) (text : List ℕ) → byte ≢ 10 → IsClean text → IsClean (byte ∷ text)
more byte text other clean = All-cons (λ byte. byte ≢ 10) byte text other clean

joined : (a b : List ℕ) → IsClean a → IsClean b → IsClean (a ++ b)
joined a b = All-append (λ byte. byte ≢ 10) a b

apart : (byte : ℕ) → (byte == 10) ≡ false → byte ≢ 10
apart byte other same = let wrong : (10 == 10) ≡ false = subst (λ n. (n == 10) ≡ false) same other in cc

-- ---- numbers

glyph : (d : ℕ) → digit_glyph false d ≢ 10
glyph d = by (nat_lt d 10)
  where
    by : (b : Bool) → (if b then 48 + d else 87 + d) ≢ 10
    by true = λ same. absurd (omega (arith, same))
    by false = λ same. absurd (omega (arith, same))

either : (b : Bool) (x y : List ℕ) → IsClean x → IsClean y → IsClean (if b then x else y)
either true x y h k = h
either false x y h k = k

digits_clean : (count base n : ℕ) (text : List ℕ) → IsClean text → IsClean (digits_onto count base false n text)
digits_clean zero base n text clean = clean
digits_clean (suc count) base n text clean =
    let longer = more (digit_glyph false (n % base)) text (glyph (n % base)) clean in
    either (n / base == 0) (digit_glyph false (n % base) ∷ text) (digits_onto count base false (n / base) (digit_glyph false (n % base) ∷ text)) longer
    (digits_clean count base (n / base) (digit_glyph false (n % base) ∷ text) longer)

decimal_clean : (n : ℕ) → IsClean (decimal n)
unfolding digits
decimal_clean n = digits_clean 64 10 n [] no_byte

number_clean : (n : Num) → IsClean (number_text n)
number_clean (unsigned n) = decimal_clean n
number_clean (negative (pos n)) = decimal_clean n
number_clean (negative (negsuc n)) = more 45 (decimal (suc n)) (apart 45 refl) (decimal_clean (suc n))
number_clean (float x) = no_byte

-- ---- strings

choice : (b : Bool) (m n : ℕ) → m ≢ 10 → n ≢ 10 → cond b m n ≢ 10
choice true m n h k = h
choice false m n h k = k

abbrev other_letter : ℕ → ℕ
other_letter x = cond (x == 8) 98 (cond (x == 12) 102 (cond (x == 10) 110 (cond (x == 13) 114 (cond (x == 9) 116 0))))

other_apart : (x : ℕ) → other_letter x ≢ 10
other_apart x =
    choice (x == 8) 98 _ (apart 98 refl) (choice (x == 12) 102 _ (apart 102 refl) (choice (x == 10) 110 _ (apart 110 refl)
    (choice (x == 13) 114 _ (apart 114 refl) (choice (x == 9) 116 0 (apart 116 refl) (apart 0 refl)))))

letter : (x : ℕ) → escape_letter x ≢ 10
letter x = by ((x == 34) || (x == 92)) refl
  where
    by : (b : Bool) → ((x == 34) || (x == 92)) ≡ b → cond b x (other_letter x) ≢ 10
    by true e = λ same. let wrong : ((10 == 34) || (10 == 92)) ≡ true = subst (λ n. ((n == 34) || (n == 92)) ≡ true) same e in cc
    by false e = other_apart x

hex_digit : (d : ℕ) → digit_char d ≢ 10
hex_digit d = by (nat_lt d 10)
  where
    by : (b : Bool) → cond b (48 + d) (87 + d) ≢ 10
    by true = λ same. absurd (omega (arith, same))
    by false = λ same. absurd (omega (arith, same))

abbrev by_number : ℕ → List ℕ
by_number x = 92 ∷ 117 ∷ 48 ∷ 48 ∷ digit_char (x / 16) ∷ digit_char (x % 16) ∷ []

by_number_clean : (x : ℕ) → IsClean (by_number x)
by_number_clean x =
    let last = more (digit_char (x % 16)) [] (hex_digit (x % 16)) no_byte in
    let both = more (digit_char (x / 16)) (digit_char (x % 16) ∷ []) (hex_digit (x / 16)) last in
    let one = more 48 (digit_char (x / 16) ∷ digit_char (x % 16) ∷ []) (apart 48 refl) both in
    let zeros = more 48 (48 ∷ digit_char (x / 16) ∷ digit_char (x % 16) ∷ []) (apart 48 refl) one in
    more 92 (117 ∷ 48 ∷ 48 ∷ digit_char (x / 16) ∷ digit_char (x % 16) ∷ []) (apart 92 refl) (more 117 (48 ∷ 48 ∷ digit_char (x / 16) ∷ digit_char (x % 16) ∷ []) (apart 117 refl) zeros)

byte_clean : (x : ℕ) → IsClean (escape_byte x)
unfolding escape_byte
byte_clean x = by (nat_lt 0 (escape_letter x))
  where
    plain : (b : Bool) → nat_lt x 32 ≡ b → IsClean (cond b (by_number x) (x ∷ []))
    plain true e = by_number_clean x
    plain false e = more x [] (λ same. let wrong : nat_lt 10 32 ≡ false = subst (λ n. nat_lt n 32 ≡ false) same e in cc) no_byte

    by : (b : Bool) → IsClean (cond b (92 ∷ escape_letter x ∷ []) (cond (nat_lt x 32) (by_number x) (x ∷ [])))
    by true = more 92 (escape_letter x ∷ []) (apart 92 refl) (more (escape_letter x) [] (letter x) no_byte)
    by false = plain (nat_lt x 32) refl

escape_clean : (text : List ℕ) → IsClean (escape text)
escape_clean [] = no_byte
escape_clean (x ∷ text) = joined (escape_byte x) (escape text) (byte_clean x) (escape_clean text)

quoted_clean : (text : List ℕ) → IsClean (quoted text)
quoted_clean text = more 34 (escape text ++ 34 ∷ []) (apart 34 refl) (joined (escape text) (34 ∷ []) (escape_clean text) (more 34 [] (apart 34 refl) no_byte))

-- ---- values

comma_clean : (later : Bool) → IsClean (comma_if later)
comma_clean true = more 44 [] (apart 44 refl) no_byte
comma_clean false = no_byte

mutual
  value_clean : (value : Data) → IsClean (compact_text value)
  value_clean null = more 110 (117 ∷ 108 ∷ 108 ∷ []) (apart 110 refl) (more 117 (108 ∷ 108 ∷ []) (apart 117 refl) (more 108 (108 ∷ []) (apart 108 refl) (more 108 [] (apart 108 refl) no_byte)))
  value_clean (boolean true) = more 116 (114 ∷ 117 ∷ 101 ∷ []) (apart 116 refl) (more 114 (117 ∷ 101 ∷ []) (apart 114 refl) (more 117 (101 ∷ []) (apart 117 refl) (more 101 [] (apart 101 refl) no_byte)))
  value_clean (boolean false) = more 102 (97 ∷ 108 ∷ 115 ∷ 101 ∷ []) (apart 102 refl) (more 97 (108 ∷ 115 ∷ 101 ∷ []) (apart 97 refl) (more 108 (115 ∷ 101 ∷ []) (apart 108 refl) (more 115 (101 ∷ []) (apart 115 refl) (more 101 [] (apart 101 refl) no_byte))))
  value_clean (number n) = number_clean n
  value_clean (string text) = quoted_clean text
  value_clean (array values) = more 91 (items_text false values) (apart 91 refl) (items_clean false values)
  value_clean (object values) = more 123 (members_text false values) (apart 123 refl) (members_clean false values)

  items_clean : (later : Bool) (values : Items) → IsClean (items_text later values)
  items_clean later no_items = more 93 [] (apart 93 refl) no_byte
  items_clean later (item value values) =
      joined (comma_if later) (compact_text value ++ items_text true values) (comma_clean later) (joined (compact_text value) (items_text true values) (value_clean value) (items_clean true values))

  members_clean : (later : Bool) (values : Members) → IsClean (members_text later values)
  members_clean later no_members = more 125 [] (apart 125 refl) no_byte
  members_clean later (member key value values) =
      let rest = joined (compact_text value) (members_text true values) (value_clean value) (members_clean true values) in
      joined (comma_if later) (quoted key ++ 58 ∷ (compact_text value ++ members_text true values)) (comma_clean later)
      (joined (quoted key) (58 ∷ (compact_text value ++ members_text true values)) (quoted_clean key) (more 58 (compact_text value ++ members_text true values) (apart 58 refl) rest))

pub one_line : (value : Data) → IsOneLine (json_line value)
one_line value = (compact_text value, refl, value_clean value)
