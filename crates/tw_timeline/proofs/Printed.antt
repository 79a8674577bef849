-- XML has printed bytes and line feeds alone, and decimal digits are written as they are.
use Rattle.std.proofs.Common.{◌≡◌, ◌==◌, ◌<◌, ◌≤◌, ◌^◌, ◌∷◌, ◌++◌, ◌&&◌, ℕ, Bool, true, false, List, [], codes, if◌then◌else◌, refl, sym, ap, subst, ◌∙◌, arith}
use Rattle.std.proofs.Math.Bool.{Bool-set}
use Rattle.std.proofs.Math.Logic.{∥∥₁_elim}
use Rattle.std.proofs.lemmas.Bool.{lt-ltb, ne_eqb}
use Rattle.std.proofs.lemmas.Fmt.{decimal_is_IsNumeral}
use Rattle.std.proofs.lemmas.List.Folds.{list_all-append}
use Rattle.std.proofs.lemmas.Str.Parse.{digit_from_value}
use Rattle.std.specs.List.{flat_map, list_all}
use Rattle.std.specs.Prelude.{decimal}
use Rattle.std.specs.Str.Parse.{AllDigits}
use Rattle.tw_timeline.specs.declared.page.Attribute.{Attribute}
use Rattle.tw_timeline.specs.declared.page.Value.{Value}
use Rattle.tw_timeline.specs.declared.page.Value.TheVariants.{Text, Number}
use Rattle.tw_timeline.specs.Xml.{Forest, Nothing, Words, Element, IsPrinted, IsXml, attribute_text, close_text, escaped, is_printed, open_text, value_text, xml_text}

-- ---- numbers

digit_same : (b : ℕ) → 48 ≤ b → b ≤ 57 → escaped b ≡ b ∷ []
digit_same b low high =
    rw (ne_eqb b 60 (λ e. omega arith), ne_eqb b 62 (λ e. omega arith), ne_eqb b 38 (λ e. omega arith), ne_eqb b 34 (λ e. omega arith), ne_eqb b 10 (λ e. omega arith), lt-ltb 31 b (omega arith), lt-ltb b 127 (omega arith))
    refl

digits_same : (ds : List ℕ) → AllDigits 10 ds → flat_map escaped ds ≡ ds
digits_same [] h = refl
digits_same (d ∷ ds) h =
    let range = digit_from_value d h.0 in
    ap (λ (t : List ℕ). t ++ flat_map escaped ds) (digit_same d range.0 range.1) ∙ ap (λ (t : List ℕ). d ∷ t) (digits_same ds h.1)

pub number_same : (n : ℕ) → n < 2 ^ 64 → decimal n ≡ flat_map escaped (decimal n)
number_same n small = sym (digits_same (decimal n) (decimal_is_IsNumeral n small).0.1)

-- ---- printed bytes

both : (a b : List ℕ) → IsPrinted a → IsPrinted b → IsPrinted (a ++ b)
both a b one two = list_all-append is_printed a b ∙ ap (λ (t : Bool). t && list_all is_printed b) one ∙ two

byte_printed : (b : ℕ) → IsPrinted (escaped b)
byte_printed b = by (b == 60) (b == 62) (b == 38) (b == 34) (is_printed b) refl
  where
    by : (less more also quoted same : Bool) → is_printed b ≡ same
        → IsPrinted (if less then codes "&lt;" else if more then codes "&gt;" else if also then codes "&amp;" else if quoted then codes "&quot;" else if same then b ∷ [] else codes "?")
    by true more also quoted same is = refl
    by false true also quoted same is = refl
    by false false true quoted same is = refl
    by false false false true same is = refl
    by false false false false true is = ap (λ (t : Bool). t && true) is
    by false false false false false is = refl

text_printed : (text : List ℕ) → IsPrinted (flat_map escaped text)
text_printed [] = refl
text_printed (b ∷ text) = both (escaped b) (flat_map escaped text) (byte_printed b) (text_printed text)

value_printed : (value : Value) → IsPrinted (value_text value)
value_printed (Text text) = text_printed text.now
value_printed (Number number) = text_printed (decimal number)

attributes_printed : (attributes : List Attribute) → IsPrinted (flat_map attribute_text attributes)
unfolding attribute_text
attributes_printed [] = refl
attributes_printed (a ∷ attributes) =
    let value : List ℕ = value_text a.value ++ codes "\"" in
    let key : List ℕ = flat_map escaped a.key.now ++ (codes "=\"" ++ value) in
    both (attribute_text a) (flat_map attribute_text attributes)
    (both (codes " ") key refl (both (flat_map escaped a.key.now) (codes "=\"" ++ value) (text_printed a.key.now) (both (codes "=\"") value refl (both (value_text a.value) (codes "\"") (value_printed a.value) refl))))
    (attributes_printed attributes)

open_printed : (name : List ℕ) (attributes : List Attribute) → IsPrinted (open_text name attributes)
unfolding open_text
open_printed name attributes =
    let others : List ℕ = flat_map attribute_text attributes ++ codes ">" in
    both (codes "<") (flat_map escaped name ++ others) refl (both (flat_map escaped name) others (text_printed name) (both (flat_map attribute_text attributes) (codes ">") (attributes_printed attributes) refl))

close_printed : (name : List ℕ) → IsPrinted (close_text name)
unfolding close_text
close_printed name = both (codes "</") (flat_map escaped name ++ codes ">\n") refl (both (flat_map escaped name) (codes ">\n") (text_printed name) refl)

forest_printed : (f : Forest) → IsPrinted (xml_text f)
unfolding xml_text
forest_printed Nothing = refl
forest_printed (Words words following) = both (flat_map escaped words) (xml_text following) (text_printed words) (forest_printed following)
forest_printed (Element name attributes inside following) =
    let after : List ℕ = close_text name ++ xml_text following in
    both (open_text name attributes) (xml_text inside ++ after) (open_printed name attributes)
    (both (xml_text inside) after (forest_printed inside) (both (close_text name) (xml_text following) (close_printed name) (forest_printed following)))

pub printed : (text : List ℕ) → IsXml text → IsPrinted text
printed text is = ∥∥₁_elim is (Bool-set (list_all is_printed text) true) (λ f. subst IsPrinted (sym f.1) (forest_printed f.0))
