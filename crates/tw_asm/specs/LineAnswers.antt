-- The results of reading the words of a line.
use Rattle.std.specs.Prelude.{List, Result, Ok, Err}
use Rattle.tw_code.specs.declared.version.Version.{Version}
use Rattle.tw_lexer.specs.Words.{Word}
use Rattle.tw_asm.specs.declared.statement.Statement as statements
use Rattle.tw_asm.specs.Seen.{IsRead, seen}
use Rattle.tw_asm.specs.Statement.{Statement, HaveForm, EncodesInLimits}
use Rattle.tw_lexer.specs.declared.numbers.TokenError.{TokenError}
use Rattle.tw_lexer.specs.declared.numbers.TokenError.TheVariants as flaw
use Rattle.tw_asm.specs.declared.rejection.Rejection.{Rejection}
use Rattle.tw_asm.specs.declared.rejection.Rejection.TheVariants as rejection

-- holds if the words after the first one have this error
abbrev pub IsFlawed : Version → TokenError → List Word → Type 0
IsFlawed version flaw.Form words = HaveForm version words → ⊥
IsFlawed version flaw.Limit words = HaveForm version words × ((statement : Statement) → EncodesInLimits version statement words → ⊥)

-- holds if this is the result of reading the words; an allocation may fail
abbrev pub Answers : Version → Result statements.Statement Rejection → List Word → Type 0
Answers version (Ok read) words = IsRead version (seen read) words
Answers version (Err rejection.NoMemory) words = Unit {0}
Answers version (Err (rejection.Flawed flaw)) words = IsFlawed version flaw words
