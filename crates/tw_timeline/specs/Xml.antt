-- XML: elements with their attributes, and their content.
use Rattle.std.specs.Prelude.{◌≡◌, ◌==◌, ◌||◌, ◌&&◌, ℕ, Bool, true, List, [], ◌∷◌, ◌++◌, codes, decimal, nat_lt, if◌then◌else◌}
use Rattle.std.specs.List.{flat_map, list_all}
use Rattle.tw_timeline.specs.declared.page.Attribute.{Attribute}
use Rattle.tw_timeline.specs.declared.page.Value.{Value}
use Rattle.tw_timeline.specs.declared.page.Value.TheVariants.{Text, Number}

-- texts and elements, one after the other
pub data Forest : Type 0 where
  Nothing : Forest
  Words : List ℕ → Forest → Forest
  -- an element: its name, its attributes and its content; and what follows it
  Element : List ℕ → List Attribute → Forest → Forest → Forest

-- returns whether it is a printed byte of ASCII, or a line feed
abbrev pub is_printed : ℕ → Bool
is_printed b = b == 10 || (nat_lt 31 b && nat_lt b 127)

-- returns a byte of a text: escaped if it has a meaning in XML, `?` if it isn't printed, and else unchanged
abbrev pub escaped : ℕ → List ℕ
escaped b =
    if b == 60 then codes "&lt;" else
    if b == 62 then codes "&gt;" else
    if b == 38 then codes "&amp;" else
    if b == 34 then codes "&quot;" else
    if is_printed b then b ∷ [] else
    codes "?"

abbrev pub value_text : Value → List ℕ
value_text (Text text) = flat_map escaped text.now
value_text (Number number) = flat_map escaped (decimal number)

unfoldable pub attribute_text : Attribute → List ℕ
attribute_text a = codes " " ++ (flat_map escaped a.key.now ++ (codes "=\"" ++ (value_text a.value ++ codes "\"")))

unfoldable pub open_text : List ℕ → List Attribute → List ℕ
open_text name attributes = codes "<" ++ (flat_map escaped name ++ (flat_map attribute_text attributes ++ codes ">"))

unfoldable pub close_text : List ℕ → List ℕ
close_text name = codes "</" ++ (flat_map escaped name ++ codes ">\n")

unfoldable pub xml_text : Forest → List ℕ
xml_text Nothing = []
xml_text (Words words following) = flat_map escaped words ++ xml_text following
xml_text (Element name attributes inside following) = open_text name attributes ++ (xml_text inside ++ (close_text name ++ xml_text following))

-- holds for a text of elements, each closed, whose names, attributes and words are escaped
abbrev pub IsXml : List ℕ → Type 0
IsXml text = ∥ ((f : Forest) × (text ≡ xml_text f)) ∥₁

-- holds for a text of printed bytes of ASCII and of line feeds: it has no other control character
abbrev pub IsPrinted : List ℕ → Type 0
IsPrinted text = list_all is_printed text ≡ true
