-- Calls that give all members of a container at once, in lists, as one input.
use Rattle.std.specs.Prelude.{◌≡◌, ◌⊎◌, ◌<◌, ◌≤◌, ◌-◌, ◌==◌, if◌then◌else◌}
use Rattle.tw_handles.specs.Names.{ℕ, zero, suc, ℤ, pos, List, IsUtf8, Option, drop, get_or, length, map, take, Input}
use Rattle.std.specs.List.{range_with_len, zip}
use Rattle.tw_types.specs.declared.input.Input.TheVariants as input
use Rattle.tw_handles.specs.Codes.{no_list, no_memory, no_utf8}
use Rattle.tw_handles.specs.Running.{IsAdded}
use Rattle.tw_handles.specs.declared.held.Held.{Held}

-- ---- subscripts

-- an empty list means 0, 1, 2 and so on
abbrev pub subscripts_of : List ℤ → ℕ → List ℤ
subscripts_of given count = if length given == 0 then map pos (range_with_len 0 count) else given

-- ---- texts, one after the other in a buffer

-- the place at which a text begins: where the one before ends
abbrev pub begin_of : List ℕ → ℕ → ℕ
begin_of ends zero = 0
begin_of ends (suc k) = get_or ends k 0

abbrev pub text_in : List ℕ → List ℕ → ℕ → List ℕ
text_in bytes ends k = take (get_or ends k 0 - begin_of ends k) (drop (begin_of ends k) bytes)

abbrev pub texts_of : List ℕ → List ℕ → List (List ℕ)
texts_of bytes ends = map (text_in bytes ends) (range_with_len 0 (length ends))

-- the text ends after its begin, within the buffer, and is UTF-8
abbrev pub IsTextAt : List ℕ → List ℕ → ℕ → Type 0
IsTextAt bytes ends k = (begin_of ends k ≤ get_or ends k 0) × (get_or ends k 0 ≤ length bytes) × IsUtf8 (text_in bytes ends k)

abbrev pub AreTextsTo : List ℕ → List ℕ → ℕ → Type 0
AreTextsTo bytes ends count = (k : ℕ) → k < count → IsTextAt bytes ends k

-- all are texts, and the last one ends where the buffer does
abbrev pub AreTexts : List ℕ → List ℕ → Type 0
AreTexts bytes ends = AreTextsTo bytes ends (length ends) × (begin_of ends (length ends) ≡ length bytes)

-- ---- inputs, and when the lists fit

-- as many subscripts as values, or none
abbrev pub AreSubscripts : List ℤ → ℕ → Type 0
AreSubscripts given count = (length given ≡ 0) ⊎ (length given ≡ count)

abbrev pub ints_of : List ℤ → List ℤ → Input
ints_of given values = input.Ints (zip (subscripts_of given (length values)) values)

abbrev pub AreNumberedTexts : List ℤ → List ℕ → List ℕ → Type 0
AreNumberedTexts given bytes ends = AreSubscripts given (length ends) × AreTexts bytes ends

abbrev pub texts_by : List ℤ → List ℕ → List ℕ → Input
texts_by given bytes ends = input.Texts (zip (subscripts_of given (length ends)) (texts_of bytes ends))

abbrev pub AreNamedInts : List ℕ → List ℕ → List ℤ → Type 0
AreNamedInts bytes ends values = (length ends ≡ length values) × AreTexts bytes ends

abbrev pub ints_by_text_of : List ℕ → List ℕ → List ℤ → Input
ints_by_text_of bytes ends values = input.IntsByText (zip (texts_of bytes ends) values)

abbrev pub AreNamedTexts : List ℕ → List ℕ → List ℕ → List ℕ → Type 0
AreNamedTexts names name_ends bytes ends = (length name_ends ≡ length ends) × AreTexts names name_ends × AreTexts bytes ends

abbrev pub texts_by_text_of : List ℕ → List ℕ → List ℕ → List ℕ → Input
texts_by_text_of names name_ends bytes ends = input.TextsByText (zip (texts_of names name_ends) (texts_of bytes ends))

-- ---- calls

-- the lists don't fit, by their lengths, their ends or a text; or an allocation failed
abbrev pub IsWhy : Type 0 → ℕ → Type 0
IsWhy Fit code = ((Fit → ⊥) × ((code ≡ no_list) ⊎ (code ≡ no_utf8))) ⊎ (code ≡ no_memory)

-- the container is an input more, if the lists fit; nothing is changed otherwise
abbrev pub IsListAdded : Type 0 → Input → Option Held → Option Held → ℕ → Type 0
IsListAdded Fit given old new code = (Fit × IsAdded given old new code) ⊎ ((new ≡ old) × IsWhy Fit code)
