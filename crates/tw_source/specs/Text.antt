-- Output about text, and the line of a text at which its program has an error.
use Rattle.std.specs.Prelude.{◌≡◌, ◌⊎◌, ◌++◌, ◌-◌, ℕ, List, [], ◌∷◌, codes, decimal, slice_get, IsUtf8, Option, Some, None}
use Rattle.std.specs.Str.{IsTrimAscii}
use Rattle.std.specs.Str.Lines.{lines}
use Rattle.tw_asm.specs.Origins.{ComesFrom}
use Rattle.tw_symbols.specs.Symbols.{AreNames, name_at}
use Rattle.tw_symbols.specs.Expansion.{ExpandsTo, IsWrittenAt}
use Rattle.tw_diagnostics.specs.FirstHead.{IsFirstHead}
use Rattle.tw_lexer.specs.Shown.{shortened}
use Rattle.tw_verify.specs.declared.rejection.VerifyError.{VerifyError}
use Rattle.tw_verify.specs.declared.rejection.VerifyError.TheVariants as rejection
use Rattle.tw_source.specs.Failure.{coded, failed}
use Rattle.tw_source.specs.declared.failure.Position.TheVariants as position
use Rattle.tw_source.specs.Reply.{Reply}
use Rattle.tw_visible.specs.Visible.{visible_bytes}

-- ---- a text

-- holds if what is to be text is UTF-8, and this is the reply to it; or if it isn't UTF-8
abbrev pub RepliesByUtf8 : List ℕ → Type 0 → Reply → Type 0
RepliesByUtf8 bytes Answers r = (IsUtf8 bytes × Answers) ⊎ ((IsUtf8 bytes → ⊥) × (r ≡ failed (coded 72 3 position.Nowhere)))

-- ---- the line of a rejected place

-- returns as much of a line as a diagnostic shows, without hidden characters
abbrev pub visible_line : List ℕ → List ℕ
visible_line line = visible_bytes (shortened line)

-- returns the number of a line of the text, and what is shown of the line
abbrev pub text_line : ℕ → List ℕ → List ℕ
text_line number line = codes "at line " ++ (decimal number ++ (codes ": " ++ (visible_line line ++ codes "\n")))

-- returns the name of the procedure in which a line is, if it has one
abbrev pub in_name : List ℕ → List ℕ
in_name [] = []
in_name (b ∷ name) = codes " in " ++ (b ∷ name)

abbrev pub line_in_text : List ℕ → ℕ → List ℕ → List ℕ
line_in_text name number line = codes "at line " ++ (decimal number ++ (in_name name ++ (codes ": " ++ (visible_line line ++ codes "\n"))))

-- holds for the line with this number, counted from 1, without white space around it
abbrev pub IsLineAt : List (List ℕ) → ℕ → List ℕ → Type 0
IsLineAt all number trimmed = (line : List ℕ) × (slice_get all (number - 1) ≡ Some line) × IsTrimAscii line trimmed

abbrev pub IsLineOf : List ℕ → ℕ → List ℕ → Type 0
IsLineOf text number trimmed = IsLineAt (lines text) number trimmed

-- holds for the number of the line from which the instruction at a place comes, as it is written; one that fills a hidden register comes from the line `regs`
abbrev pub IsFromLine : List ℕ → ℕ → ℕ → ℕ → Type 0
IsFromLine text procedure place number = (plain : List ℕ) × (at : ℕ) × ExpandsTo text plain × ComesFrom plain procedure place at × IsWrittenAt text plain at number

-- holds for that line, with its procedure's name
abbrev pub IsPlaceLine : List ℕ → ℕ → ℕ → List ℕ → Type 0
IsPlaceLine text procedure place more =
    (number : ℕ) × (line : List ℕ) × (names : List (List ℕ)) × IsFromLine text procedure place number × IsLineOf text number line
    × AreNames text names × (more ≡ line_in_text (name_at names procedure) number line)

-- holds for that line; without a text there is none
abbrev pub IsPlaceText : Option (List ℕ) → ℕ → ℕ → List ℕ → Type 0
IsPlaceText None procedure place more = more ≡ []
IsPlaceText (Some text) procedure place more = IsPlaceLine text procedure place more

-- ---- the line of an error

-- holds for the number of the line from which the instruction at a rejected place comes, or of the line that begins main if its shape is wrong
abbrev pub IsLineOfError : VerifyError → List ℕ → ℕ → ℕ → ℕ → Type 0
IsLineOfError rejection.MainShape plain procedure place number = IsFirstHead plain number
IsLineOfError which plain procedure place number = ComesFrom plain procedure place number

-- holds for that of an error; without a text there is none
abbrev pub IsRejectionLine : Option (List ℕ) → VerifyError → ℕ → ℕ → Option ℕ → Type 0
IsRejectionLine None which procedure place at = at ≡ None
IsRejectionLine (Some text) which procedure place at =
    (plain : List ℕ) × (own : ℕ) × (number : ℕ) × ExpandsTo text plain × IsLineOfError which plain procedure place own × IsWrittenAt text plain own number × (at ≡ Some number)
