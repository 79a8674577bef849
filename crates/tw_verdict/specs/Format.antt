-- The format of a source: the one that a letter names, or the one that is found.
use Rattle.std.specs.Prelude.{◌==◌, ◌&&◌, ◌||◌, ℕ, Bool, List, codes, if◌then◌else◌, nat_eq, nat_le}
use Rattle.std.specs.List.{list_all, starts_with}
use Rattle.tw_verdict.specs.declared.format.Format.{Format}
use Rattle.tw_verdict.specs.declared.format.Format.TheVariants.{Bytes, Hex, Assembly}

-- a hex digit, a space, a tab, a carriage return or a line feed
abbrev pub is_hex_byte : ℕ → Bool
is_hex_byte b =
    b == 32 || b == 9 || b == 13 || b == 10 || (nat_le 48 b && nat_le b 57) || (nat_le 65 b && nat_le b 70) || (nat_le 97 b && nat_le b 102)

-- bytes begin with TWB; hex text has only digits and white space; else it is assembly text
abbrev pub found_format : List ℕ → Format
found_format source =
    if starts_with nat_eq source (codes "TWB") then Bytes else
    if list_all is_hex_byte source then Hex else
    Assembly

-- b, h or t names a format
abbrev pub format_of : ℕ → List ℕ → Format
format_of letter source =
    if letter == 98 then Bytes else
    if letter == 104 then Hex else
    if letter == 116 then Assembly else
    found_format source
