-- Texts of one line.
use Rattle.std.specs.Prelude.{◌≡◌, ◌≢◌, ◌≤◌, ◌++◌, ℕ, List, Some, codes}
use Rattle.std.specs.List.{All}
use Rattle.serde_json.specs.Data.{Data, depth}
use Rattle.serde_json.specs.Read.{max_depth, read}
use Rattle.serde_json.specs.Written.{compact_text}
use Rattle.tw_json_output.specs.Run.{json_line}

-- the text has one line feed, its last byte
abbrev pub IsOneLine : List ℕ → Type 0
IsOneLine text = (before : List ℕ) × (text ≡ before ++ codes "\n") × All (λ byte. byte ≢ 10) before

-- one line of JSON: the compact text of a value, which is read back unless it is nested deeper than a reader allows
pub record IsJsonLine (line : List ℕ) : Type 0 where
  pub value : Data
  pub is : line ≡ json_line value
  pub reads_back : depth value ≤ max_depth → read (compact_text value) ≡ Some value
