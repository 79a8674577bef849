-- The numbers of written lines, by those of the lines of their expansion.
use Rattle.std.specs.Prelude.{◌≡◌, ◌+◌, ◌-◌, ◌<◌, ℕ, List, [], MatchOption, Option, String, length, map, slice_get, unwrap_or, get_or}
use Rattle.std.specs.Str.Lines.{lines}
use Rattle.std.specs.declared.alloc.Global.{Global}
use Rattle.std.specs.Prelude.{string_bytes}
use Rattle.tw_symbols.specs.Expansion.{written_line}
use Rattle.tw_source.specs.declared.text_lines.TextLines.{TextLines}

-- holds for the number of the written line of each line
pub record AreNumbers (plain : List ℕ) (numbers : List ℕ) : Type 0 where
  pub count : length numbers ≡ length (lines plain)
  pub each : (index : ℕ) → index < length (lines plain) → get_or numbers index 0 ≡ written_line plain (index + 1)

-- holds for them; there are none if the text has no names
abbrev pub AreWritten : Option (String Global) → List ℕ → Type 0
AreWritten plain numbers = MatchOption plain (numbers ≡ []) (λ plain. AreNumbers (string_bytes plain) numbers)

-- returns the number for the line of this number, from 1, which is that itself if there is none
abbrev pub number_at : List ℕ → ℕ → ℕ
number_at numbers own = unwrap_or (slice_get numbers (own - 1)) own

pub record IsTable (table : TextLines) (text : List ℕ) (plain : Option (String Global)) : Type 0 where
  pub lines_are : map (λ line. line.now) table.lines.items ≡ lines text
  pub numbers : AreWritten plain table.written.items
