-- How a file's format is known.
use Rattle.std.specs.Prelude.{◌==◌, ◌||◌, ℕ, Bool, not, true, false, List, Option, codes, filter, take, if◌then◌else◌, nat_eq}
use Rattle.std.specs.List.{ends_with, starts_with}
use Rattle.std.specs.Option.{option_map_or}

abbrev pub is_gap : ℕ → Bool
is_gap byte = (byte == 32) || (byte == 9) || (byte == 13) || (byte == 10)

abbrev pub without_gaps : List ℕ → List ℕ
without_gaps = filter (λ byte. not (is_gap byte))

-- returns whether a file begins like the bytes of a program as hex text
abbrev pub begins_as_hex : List ℕ → Bool
begins_as_hex bytes = starts_with nat_eq (without_gaps (take 64 bytes)) (codes "545742")

-- returns whether a file holds assembly text: by the ending of its name, else by how it begins
abbrev pub is_text : List ℕ → List ℕ → Bool
is_text path bytes =
    if ends_with nat_eq path (codes ".tw") || ends_with nat_eq path (codes ".twn") then true else
    if ends_with nat_eq path (codes ".hex") || ends_with nat_eq path (codes ".history") then false else
    not (begins_as_hex bytes)

-- returns whether the program's file holds assembly text, if it is named
abbrev pub may_be_text : Option (List ℕ) → List ℕ → Bool
may_be_text path bytes = option_map_or (λ name. is_text name bytes) path false
